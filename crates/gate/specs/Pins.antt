-- Levels that come to the pins of port C, none of which opens the gate (01, 'Registers', 'Timer'; 02, R-2; 000, 1.2.10).
use Rattle.std.specs.Prelude.{ℕ, Bool, List, [], ◌∷◌, eqb, if◌then◌else◌}
use Rattle.bits.specs.Field.{with_bit}
use Rattle.bits.specs.Tables.{Entry, from, find}
use Rattle.event.specs.Map.{PC0, lines}
use Rattle.port_c.specs.Parts.{with_outside}
use Rattle.port_c.specs.Pins.{tin, tin_level}
use Rattle.timer.specs.Running.{tin_goes}
use Rattle.gate.specs.Parts.{with_timer, with_c}
use Rattle.gate.specs.declared.Gate.{Gate}

-- port C with another outside level at line n
abbrev pub with_line : Gate → ℕ → Bool → Gate
with_line g n level = with_c g (with_outside g.c (with_bit g.c.outside n level))

-- a level comes to PC2, where TIN may be
unfoldable pub tin_event : Gate → Bool → Gate
tin_event g level = with_line (with_timer g (tin_goes g.timer (tin_level g.c) level)) tin level

-- a level comes to line n of port C
unfoldable pub line_event : Gate → ℕ → Bool → Gate
line_event g n level = if eqb n tin then tin_event g level else with_line g n level

-- a level comes to any pin, as far as it concerns the gate
abbrev pub gate_pins : Gate → Bool → List (Entry Gate)
gate_pins g level = from PC0 lines (λ n. line_event g n level) ∷ []

unfoldable pub gate_pinned : Gate → ℕ → Bool → Gate
gate_pinned g pin level = find (gate_pins g level) g pin
