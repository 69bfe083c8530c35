-- Clocks of a pair (01, 'Mode 0').
use Rattle.std.specs.Prelude.{ℕ, Bool, ◌&&◌, eqb}
use Rattle.port.specs.Parts.{with_strobe}
use Rattle.port.specs.Handshaking.{clocked_strobe, strobe_after}
use Rattle.port.specs.declared.Rules.{Rules}
use Rattle.port.specs.declared.Link.{Link}

-- one clock
abbrev pub clocked_link : Link → Rules → Link
clocked_link l rules = with_strobe l (clocked_strobe l.strobe rules.handshake)

-- neither a wait nor a pulse runs
unfoldable pub untimed_of : Link → Bool
untimed_of l = eqb l.strobe.wait 0 && eqb l.strobe.pulse 0

-- n clocks
abbrev pub clocks_of : ℕ → Link → Rules → Link
clocks_of n l rules = with_strobe l (strobe_after n l.strobe rules.handshake)
