-- Writes of PGCR, of a pair's control register and of PSR (01, 'Mode 0', 'Registers'; 000, 2.1, 2.3, 3.3 and 4.8).
use Rattle.std.specs.Prelude.{ℕ, Bool, false, not, ◌&&◌, eqb, ltb, if◌then◌else◌}
use Rattle.std.specs.Bool.{beq}
use Rattle.port.specs.Control.{mode_of, submode_field, handshake_field, enabled_of, rules_of}
use Rattle.port.specs.Parts.{with_control, with_strobe, with_flags}
use Rattle.port.specs.Handshaking.{ready_of, readied_of}
use Rattle.port.specs.Edges.{restarted_of, flushed_of}
use Rattle.port.specs.declared.Pair.{Pair}
use Rattle.port.specs.declared.Rules.{Rules}
use Rattle.port.specs.declared.Link.{Link}

-- readiness begins, where it now holds
unfoldable pub begins_of : Link → Rules → Link
begins_of l rules = if ready_of rules l.held then with_strobe l (readied_of l.strobe rules) else l

-- a write of PGCR that changes the mode field empties the pair, clears edge flags and restarts H2; so does one that clears this pair's
-- enable bit: nothing is held then, and H2 is negated without wait or pulse. One that sets the bit begins readiness
unfoldable pub pgcr_written : Link → Pair → ℕ → ℕ → Link
pgcr_written l pair old new =
    if eqb (mode_of old) (mode_of new) && beq (enabled_of pair old) (enabled_of pair new) then l
    else if eqb (mode_of old) (mode_of new) && enabled_of pair new then begins_of l (rules_of pair new l.control)
    else flushed_of l (rules_of pair new l.control)

-- a write of the control register that changes the submode field empties the pair, clears edge flags and restarts H2; a change
-- of H2 control restarts H2 only, and clears H2S unless 0XX stays
unfoldable pub control_written : Link → Pair → ℕ → ℕ → Link
control_written l pair pgcr v =
    if not (eqb (submode_field l.control) (submode_field v)) then flushed_of (with_control l v) (rules_of pair pgcr v)
    else if eqb (handshake_field l.control) (handshake_field v) then with_control l v
    else if ltb (handshake_field l.control) 4 && ltb (handshake_field v) 4 then restarted_of (with_control l v) (rules_of pair pgcr v)
    else restarted_of (with_flags (with_control l v) l.flag1 false) (rules_of pair pgcr v)

-- writing ones to PSR clears edge-set flags only
abbrev pub flags_cleared_of : Link → Bool → Bool → Link
flags_cleared_of l one two = with_flags l (l.flag1 && not one) (l.flag2 && not two)
