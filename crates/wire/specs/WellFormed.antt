-- Events whose fields are in the ranges of 01's table of kinds, and what holds of them.
use Rattle.std.specs.Prelude.{ℕ, ◌+◌, ◌*◌, ◌^◌, ◌<◌, ◌≤◌, List, [], ◌∷◌}
use Rattle.std.proofs.Common.{arith}
use Rattle.wire.specs.Next.{last_pin, most_clocks, kind_bits, register_bits, value_bits, clocks_bits, size_of, bits_of}
use Rattle.wire.specs.Needs.{clocks_in}
use Rattle.event.specs.declared.Event.{Event}
use Rattle.event.specs.declared.Event.TheVariants.{Write, Read, PortAcknowledge, TimerAcknowledge, Pin, Clocks, Reset}

-- registers below 32, values below 256, pins 0 to 27, clocks 1 to 65,536
abbrev pub IsWellFormed : Event → Type 0
IsWellFormed (Write r v) = (r < 2 ^ register_bits) × (v < 2 ^ value_bits)
IsWellFormed (Read r) = r < 2 ^ register_bits
IsWellFormed PortAcknowledge = Unit {0}
IsWellFormed TimerAcknowledge = Unit {0}
IsWellFormed (Pin n l) = n ≤ last_pin
IsWellFormed (Clocks n) = (1 ≤ n) × (n ≤ most_clocks)
IsWellFormed Reset = Unit {0}

-- an event takes at least the bits of its kind
pub three_bits : (e : Event) → kind_bits ≤ bits_of e
unfolding size_of
three_bits (Write r v) = omega arith
three_bits (Read r) = omega arith
three_bits PortAcknowledge = omega arith
three_bits TimerAcknowledge = omega arith
three_bits (Pin n l) = omega arith
three_bits (Clocks n) = omega arith
three_bits Reset = omega arith

-- an event is at most 65,536 clocks
pub few_clocks : (e : Event) → IsWellFormed e → clocks_in e ≤ most_clocks
few_clocks (Write r v) formed = omega arith
few_clocks (Read r) formed = omega arith
few_clocks PortAcknowledge formed = omega arith
few_clocks TimerAcknowledge formed = omega arith
few_clocks (Pin n l) formed = omega arith
few_clocks (Clocks n) formed = formed.1
few_clocks Reset formed = omega arith

-- 1 for a clocks event
abbrev pub clocks_event : Event → ℕ
clocks_event (Write r v) = 0
clocks_event (Read r) = 0
clocks_event PortAcknowledge = 0
clocks_event TimerAcknowledge = 0
clocks_event (Pin n l) = 0
clocks_event (Clocks n) = 1
clocks_event Reset = 0

-- a clocks event takes 19 bits
pub clocks_bits_lem : (e : Event) → (kind_bits + clocks_bits) * clocks_event e ≤ bits_of e
unfolding size_of
clocks_bits_lem (Write r v) = omega arith
clocks_bits_lem (Read r) = omega arith
clocks_bits_lem PortAcknowledge = omega arith
clocks_bits_lem TimerAcknowledge = omega arith
clocks_bits_lem (Pin n l) = omega arith
clocks_bits_lem (Clocks n) = omega arith
clocks_bits_lem Reset = omega arith

-- and is at most 65,536 clocks; the other events are none
pub most_clocks_lem : (e : Event) → IsWellFormed e → clocks_in e ≤ most_clocks * clocks_event e
most_clocks_lem (Write r v) formed = omega arith
most_clocks_lem (Read r) formed = omega arith
most_clocks_lem PortAcknowledge formed = omega arith
most_clocks_lem TimerAcknowledge formed = omega arith
most_clocks_lem (Pin n l) formed = omega arith
most_clocks_lem (Clocks n) formed = omega arith
most_clocks_lem Reset formed = omega arith

-- so that clocks are paced by bits
pub paced : (e : Event) → IsWellFormed e → (kind_bits + clocks_bits) * clocks_in e ≤ most_clocks * bits_of e
paced e formed = omega (arith, clocks_bits_lem e, most_clocks_lem e formed)

-- events one after the other: each well formed, and how many bits they take
unfoldable pub AllWellFormed : List Event → Type 0
AllWellFormed [] = Unit {0}
AllWellFormed (e ∷ es) = IsWellFormed e × AllWellFormed es

unfoldable pub bits_of_all : List Event → ℕ
bits_of_all [] = 0
bits_of_all (e ∷ es) = bits_of e + bits_of_all es
