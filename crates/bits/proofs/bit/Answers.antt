-- `bits::bit` meets its contract: past bit 7 of a byte nothing is left.
use Rattle.std.proofs.Common.{◌≡◌, ◌^◌, ◌/◌, arith}
use native.Mathlib.Nat.{div-eq_of_lt, lt_of_lt_of_le}
use lib.Pow.{pow_mono}
use Rattle.bits.specs.Field.{bit_of}
use Rattle.bits.proofs.bit.Goals as goal

pub returns-else-n-lt8 : goal.returns-else-n-lt8
unfolding bit_of
returns-else-n-lt8 c =
    let z : c.args.x / 2 ^ c.args.n ≡ 0 = div-eq_of_lt (lt_of_lt_of_le c.ranges.x.fits (pow_mono c.if-n-lt8.false)) in
    rw z (grind (arith, c.if-n-lt8.false))
