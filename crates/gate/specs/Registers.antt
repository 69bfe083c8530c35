-- Writes of the registers that the gate has (01, 'Registers', 'Timer'; 000, 4.3, 4.6.3 and 4.9 to 4.14).
use Rattle.std.specs.Prelude.{ℕ, List, [], ◌∷◌}
use Rattle.bits.specs.Tables.{Entry, at, from, find}
use Rattle.event.specs.Map.{PCDDR, PCDR, TCR, TIVR, CPRH, number_bytes, TSR}
use Rattle.port_c.specs.Parts.{with_direction, with_latch}
use Rattle.port_c.specs.Pins.{tin_level}
use Rattle.timer.specs.Parts.{with_tivr}
use Rattle.timer.specs.Registers.{controlled_of, cleared_of, preloaded_of}
use Rattle.gate.specs.Parts.{with_timer, with_c}
use Rattle.gate.specs.declared.Gate.{Gate}

unfoldable pub write_tcr : Gate → ℕ → Gate
write_tcr g v = with_timer g (controlled_of g.timer v (tin_level g.c))

unfoldable pub write_preload : Gate → ℕ → ℕ → Gate
write_preload g place v = with_timer g (preloaded_of g.timer place v)

unfoldable pub write_tsr : Gate → ℕ → Gate
write_tsr g v = with_timer g (cleared_of g.timer v)

-- the gate after a write of each of its registers
abbrev pub gate_writes : Gate → ℕ → List (Entry Gate)
gate_writes g v =
    at PCDDR (with_c g (with_direction g.c v))
    ∷ at PCDR (with_c g (with_latch g.c v))
    ∷ at TCR (write_tcr g v)
    ∷ at TIVR (with_timer g (with_tivr g.timer v))
    ∷ from CPRH number_bytes (λ place. write_preload g place v)
    ∷ at TSR (write_tsr g v)
    ∷ []

-- a write of any register, as far as it concerns the gate
unfoldable pub gate_written : Gate → ℕ → ℕ → Gate
gate_written g r v = find (gate_writes g v) g r
