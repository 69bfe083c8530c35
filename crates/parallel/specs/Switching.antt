-- Writes of PGCR, PSRR, PIVR, PACR, PBCR and PSR (01, 'Registers', 'Mode 0'; 000, 4.1 to 4.5 and 4.8).
use Rattle.std.specs.Prelude.{ℕ}
use Rattle.std.specs.Int.Bits.{bit_and}
use Rattle.bits.specs.Field.{bit_of}
use Rattle.port.specs.Switching.{pgcr_written, control_written, flags_cleared_of}
use Rattle.port.specs.declared.Pair.{Pair}
use Rattle.port.specs.declared.Pair.TheVariants.{H12, H34}
use Rattle.parallel.specs.Parts.{link_of, with_link, with_links, with_registers}
use Rattle.parallel.specs.declared.Parallel.{Parallel}

unfoldable pub write_pgcr : Parallel → ℕ → Parallel
write_pgcr p v =
    with_links (with_registers p v p.psrr p.pivr) (pgcr_written p.h12 H12 p.pgcr v) (pgcr_written p.h34 H34 p.pgcr v)

-- PSRR bit 7 is unused
abbrev pub psrr_bits : ℕ
psrr_bits = 0x7f

unfoldable pub write_psrr : Parallel → ℕ → Parallel
write_psrr p v = with_registers p p.pgcr (bit_and v psrr_bits) p.pivr

-- a write to PIVR stores the upper six bits and clears the lower two
abbrev pub pivr_bits : ℕ
pivr_bits = 0xfc

unfoldable pub write_pivr : Parallel → ℕ → Parallel
write_pivr p v = with_registers p p.pgcr p.psrr (bit_and v pivr_bits)

-- PACR or PBCR
unfoldable pub write_control : Parallel → Pair → ℕ → Parallel
write_control p pair v = with_link p pair (control_written (link_of p pair) pair p.pgcr v)

-- bits 3-0 of PSR are H4S-H1S
unfoldable pub write_psr : Parallel → ℕ → Parallel
write_psr p v = with_links p (flags_cleared_of p.h12 (bit_of v 0) (bit_of v 1)) (flags_cleared_of p.h34 (bit_of v 2) (bit_of v 3))
