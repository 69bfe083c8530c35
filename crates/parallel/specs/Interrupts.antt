-- Statuses, PSR, the port interrupt request and the port acknowledge (01, 'Interrupts', 'Registers'; 000, 2.2.1, 4.2, 4.4 and 4.8).
use Rattle.std.specs.Prelude.{ℕ, Bool, Option}
use Rattle.bits.specs.Field.{packed_of}
use Rattle.interrupt.specs.Enabling.{enabled_in}
use Rattle.interrupt.specs.Answering.{acknowledge_of}
use Rattle.interrupt.specs.declared.Flags.{Flags}
use Rattle.port.specs.Status.{first_status, second_status}
use Rattle.port.specs.declared.Pair.{Pair}
use Rattle.port.specs.declared.Pair.TheVariants.{H12, H34}
use Rattle.parallel.specs.Parts.{link_of, rules_at}
use Rattle.parallel.specs.Pins.{second_level}
use Rattle.parallel.specs.declared.Parallel.{Parallel}

-- H1S or H3S
unfoldable pub first_status_of : Parallel → Pair → Bool
first_status_of p pair = first_status (link_of p pair) (rules_at p pair)

-- H2S or H4S
unfoldable pub second_status_of : Parallel → Pair → Bool
second_status_of p pair = second_status (link_of p pair) (rules_at p pair)

-- H1S to H4S
unfoldable pub statuses_of : Parallel → Flags
statuses_of p = record { h1 = first_status_of p H12; h2 = second_status_of p H12; h3 = first_status_of p H34; h4 = second_status_of p H34 }

-- PSR bits 7-4 are the levels of H4-H1, bits 3-0 H4S-H1S
unfoldable pub psr_of : Parallel → ℕ
psr_of p =
    packed_of (second_level p H34) p.h34.level1 (second_level p H12) p.h12.level1
    (statuses_of p).h4 (statuses_of p).h3 (statuses_of p).h2 (statuses_of p).h1

-- the statuses that PACR, PBCR and PSRR enable
unfoldable pub enabled_of : Parallel → Flags
enabled_of p = enabled_in (statuses_of p) p.h12.control p.h34.control p.psrr

-- a port acknowledge
unfoldable pub port_acknowledge : Parallel → Option ℕ
port_acknowledge p = acknowledge_of p.psrr p.pivr (enabled_of p)
