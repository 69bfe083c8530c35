-- Clocks of the gate (01, 'Timer').
use Rattle.std.specs.Prelude.{ℕ, List, length}
use Rattle.port_c.specs.Pins.{tin_level}
use Rattle.timer.specs.Running.{clocked_timer, after, openings}
use Rattle.timer.specs.declared.Stepped.{Stepped}
use Rattle.timer.specs.declared.Run.{Run}
use Rattle.gate.specs.Parts.{with_timer}
use Rattle.gate.specs.declared.Gate.{Gate}

-- one clock
unfoldable pub clocked_gate : Gate → Stepped Gate
clocked_gate g = record {
  part = with_timer g (clocked_timer (tin_level g.c) g.timer).part;
  opened = (clocked_timer (tin_level g.c) g.timer).opened;
}

-- the gate after n clocks
abbrev pub gate_after : ℕ → Gate → Gate
gate_after n g = with_timer g (after (tin_level g.c) n g.timer)

-- the numbers of the clocks at which it opened, of the n after clock k
abbrev pub gate_openings : ℕ → ℕ → Gate → List ℕ
gate_openings n k g = openings (tin_level g.c) n k g.timer

-- n clocks after clock k: the gate, and how many of them opened it
unfoldable pub gate_run : ℕ → ℕ → Gate → Run Gate
gate_run n k g = record { part = gate_after n g; used = length (gate_openings n k g) }
