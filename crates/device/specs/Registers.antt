-- The register map (01, 'Registers'; 001, register map; 000, 1.3 and section 4), as tables in its order.
use Rattle.std.specs.Prelude.{ℕ, List, [], ◌∷◌, if◌then◌else◌}
use Rattle.bits.specs.Tables.{Entry, at, from, find}
use Rattle.event.specs.Map.{PGCR, PSRR, PADDR, PBDDR, PCDDR, PIVR, PACR, PBCR, PADR, PBDR, PAAR, PBAR, PCDR, PSR}
use Rattle.event.specs.Map.{TCR, TIVR, CPRH, CNTRH, TSR, number_bytes}
use Rattle.port.specs.Parts.{with_direction}
use Rattle.port.specs.declared.Pair.TheVariants.{H12, H34}
use Rattle.port_c.specs.Parts.{with_direction as with_direction_c, with_latch}
use Rattle.port_c.specs.Pins.{data_of}
use Rattle.timer.specs.Parts.{with_tivr}
use Rattle.timer.specs.Registers.{byte_of}
use Rattle.gate.specs.Parts.{with_timer, with_c}
use Rattle.gate.specs.Registers.{write_tcr, write_preload, write_tsr}
use Rattle.parallel.specs.Parts.{with_ports}
use Rattle.parallel.specs.Pins.{pins_of}
use Rattle.parallel.specs.Data.{read_data as data_read, write_data}
use Rattle.parallel.specs.Switching.{write_pgcr, write_psrr, write_pivr, write_control, write_psr}
use Rattle.parallel.specs.Interrupts.{psr_of}
use Rattle.parallel.specs.declared.Parallel.{Parallel}
use Rattle.device.specs.Parts.{with_parallel, with_gate}
use Rattle.device.specs.Pins.{pins_c}
use Rattle.device.specs.declared.Device.{Device}
use Rattle.device.specs.declared.ReadOut.{ReadOut}

-- a read that changes nothing
abbrev pub plainly : Device → ℕ → ReadOut
plainly d byte = record { device = d; byte = byte }

-- the byte that a read of each register gives: alternates read the eight pin levels; running counts read as they stand
abbrev pub reads : Device → List (Entry ℕ)
reads d =
    at PGCR d.parallel.pgcr
    ∷ at PSRR d.parallel.psrr
    ∷ at PADDR d.parallel.a.direction
    ∷ at PBDDR d.parallel.b.direction
    ∷ at PCDDR d.gate.c.direction
    ∷ at PIVR d.parallel.pivr
    ∷ at PACR d.parallel.h12.control
    ∷ at PBCR d.parallel.h34.control
    ∷ at PADR (data_read d.parallel H12).byte
    ∷ at PBDR (data_read d.parallel H34).byte
    ∷ at PAAR (pins_of d.parallel H12)
    ∷ at PBAR (pins_of d.parallel H34)
    ∷ at PCDR (data_of d.gate.c (pins_c d))
    ∷ at PSR (psr_of d.parallel)
    ∷ at TCR d.gate.timer.tcr
    ∷ at TIVR d.gate.timer.tivr
    ∷ from CPRH number_bytes (byte_of d.gate.timer.preload.0)
    ∷ from CNTRH number_bytes (byte_of d.gate.timer.count.0)
    ∷ at TSR (if d.gate.timer.phase.zds then 1 else 0)
    ∷ []

-- what a read of a data register leaves; no other read changes anything
abbrev pub takes : Parallel → List (Entry Parallel)
takes p = at PADR (data_read p H12).parallel ∷ at PBDR (data_read p H34).parallel ∷ []

-- all others read 0
unfoldable pub read_of : Device → ℕ → ReadOut
read_of d r = record { device = with_parallel d (find (takes d.parallel) d.parallel r); byte = find (reads d) 0 r }

-- the device after a write of each register
abbrev pub writes : Device → ℕ → List (Entry Device)
writes d v =
    let p = d.parallel in
    let g = d.gate in
    at PGCR (with_parallel d (write_pgcr p v))
    ∷ at PSRR (with_parallel d (write_psrr p v))
    ∷ at PADDR (with_parallel d (with_ports p (with_direction p.a v) p.b))
    ∷ at PBDDR (with_parallel d (with_ports p p.a (with_direction p.b v)))
    ∷ at PCDDR (with_gate d (with_c g (with_direction_c g.c v)))
    ∷ at PIVR (with_parallel d (write_pivr p v))
    ∷ at PACR (with_parallel d (write_control p H12 v))
    ∷ at PBCR (with_parallel d (write_control p H34 v))
    ∷ at PADR (with_parallel d (write_data p H12 v))
    ∷ at PBDR (with_parallel d (write_data p H34 v))
    ∷ at PCDR (with_gate d (with_c g (with_latch g.c v)))
    ∷ at PSR (with_parallel d (write_psr p v))
    ∷ at TCR (with_gate d (write_tcr g v))
    ∷ at TIVR (with_gate d (with_timer g (with_tivr g.timer v)))
    ∷ from CPRH number_bytes (λ place. with_gate d (write_preload g place v))
    ∷ at TSR (with_gate d (write_tsr g v))
    ∷ []

-- alternates, count registers and all others ignore writes
unfoldable pub write_of : Device → ℕ → ℕ → Device
write_of d r v = find (writes d v) d r
