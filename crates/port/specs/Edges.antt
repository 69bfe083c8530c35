-- Edges of a pair's pins, and H2 restarted (01, 'Mode 0'; 000, 2.1, 2.3, 2.5 and 3.3).
use Rattle.std.specs.Prelude.{true, false, ◌&&◌, if◌then◌else◌}
use Rattle.port.specs.Parts.{with_held, with_strobe, with_flags}
use Rattle.port.specs.Moving.{moved_count}
use Rattle.port.specs.Control.{direct_of, senses_of}
use Rattle.port.specs.Handshaking.{begun_of, accepts_of}
use Rattle.port.specs.declared.Rules.{Rules}
use Rattle.port.specs.declared.Link.{Link}

-- H2 restarted
unfoldable pub restarted_of : Link → Rules → Link
restarted_of l rules = with_strobe l (begun_of rules l.held)

-- emptied, edge flags cleared, H2 restarted
unfoldable pub flushed_of : Link → Rules → Link
flushed_of l rules = restarted_of (with_flags (with_held l 0) false false) rules

-- an asserted edge of H1: where it is accepted an element moves and H2 is restarted; in 1X it sets H1S; else nothing
unfoldable pub first_edge : Link → Rules → Link
first_edge l rules =
    if accepts_of rules l.held l.strobe.asserted then restarted_of (with_held l (moved_count rules.way l.held)) rules
    else if rules.enabled && direct_of rules.way then with_flags l true l.flag2
    else l

-- an asserted edge of H2 as an input sets H2S
unfoldable pub second_edge : Link → Rules → Link
second_edge l rules = if rules.enabled && senses_of rules.handshake then with_flags l l.flag1 true else l
