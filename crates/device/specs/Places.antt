-- What a read or a write of a data register, and a level at a pin of port A or B or at the first pin of a pair, make of a device.
use Rattle.std.specs.Prelude.{ℕ, ◌-◌, ◌≤◌, ◌<◌, Bool, ◌≡◌, refl}
use Rattle.std.proofs.Common.{zero-le, ap, ◌∙◌, arith, le-leb, lt-ltb, le-ltb}
use Rattle.std.proofs.Math.Nat.{sub-zero}
use Rattle.bits.specs.Field.{with_bit}
use Rattle.bits.specs.Tables.{missed}
use Rattle.event.specs.Map.{PADR, PBDR, PA0, PB0, PC0, H1, H3}
use Rattle.port.specs.Parts.{with_outside}
use Rattle.port.specs.declared.Pair.{Pair}
use Rattle.port.specs.declared.Pair.TheVariants.{H12, H34}
use Rattle.gate.specs.Pins.{gate_pinned}
use Rattle.parallel.specs.Parts.{with_ports}
use Rattle.parallel.specs.Pins.{first_pin, parallel_pinned}
use Rattle.parallel.specs.Data.{read_data, write_data}
use Rattle.device.specs.Parts.{with_parallel}
use Rattle.device.specs.Pins.{pin_of, other_pins}
use Rattle.device.specs.Registers.{takes, read_of, write_of}
use Rattle.device.specs.declared.Device.{Device}

-- the data register of a pair's own port, and the pair's first pin
abbrev pub data_register : Pair → ℕ
data_register H12 = PADR
data_register H34 = PBDR

abbrev pub first_pin_of : Pair → ℕ
first_pin_of H12 = H1
first_pin_of H34 = H3

-- a read of a data register changes ports and pairs alone,
pub read_data_lem : (d : Device) (pair : Pair)
    → read_of d (data_register pair) ≡ record { device = with_parallel d (read_data d.parallel pair).parallel; byte = (read_data d.parallel pair).byte }
unfolding read_of
read_data_lem d H12 = refl
read_data_lem d H34 = refl

-- one of any other register nothing,
pub read_keeps : (d : Device) (r : ℕ) → (r ≡ PADR → ⊥) → (r ≡ PBDR → ⊥) → (read_of d r).device ≡ d
unfolding read_of
read_keeps d r a b = ap (with_parallel d) (missed (takes d.parallel) d.parallel r (a, (b, tt)))

-- and a write of a data register ports and pairs alone
pub write_data_lem : (d : Device) (pair : Pair) (v : ℕ) → write_of d (data_register pair) v ≡ with_parallel d (write_data d.parallel pair v)
unfolding write_of
write_data_lem d H12 v = refl
write_data_lem d H34 v = refl

-- a level at a pin of port A or of port B is remembered there,
pub at_port_a : (d : Device) (n : ℕ) (level : Bool) → n < PB0
    → pin_of d n level ≡ with_parallel d (with_ports d.parallel (with_outside d.parallel.a (with_bit d.parallel.a.outside n level)) d.parallel.b)
unfolding parallel_pinned
at_port_a d n level high =
    other_pins d n level (λ low _. omega arith) ∙ simp (le-leb PA0 n zero-le, lt-ltb n PB0 high, sub-zero)

pub at_port_b : (d : Device) (n : ℕ) (level : Bool) → PB0 ≤ n → n < PC0
    → pin_of d n level ≡ with_parallel d (with_ports d.parallel d.parallel.a (with_outside d.parallel.b (with_bit d.parallel.b.outside (n - PB0) level)))
unfolding parallel_pinned
at_port_b d n level low high =
    other_pins d n level (λ c _. omega arith) ∙ rw (le-leb PA0 n zero-le, le-ltb n PB0 low, le-leb PB0 n low, lt-ltb n PC0 high) refl

-- and one at a pair's first pin comes to the pair
pub at_first : (d : Device) (pair : Pair) (level : Bool) → pin_of d (first_pin_of pair) level ≡ with_parallel d (first_pin d.parallel pair level)
unfolding pin_of parallel_pinned gate_pinned
at_first d H12 level = refl
at_first d H34 level = refl
