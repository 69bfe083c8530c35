-- A field splits into its first bits and its last: a wide field is read once, and its parts are shifts and remainders of it.
use Rattle.std.specs.Prelude.{◌≡◌, ℕ, zero, suc, ◌+◌, ◌*◌, ◌/◌, ◌%◌, ◌^◌, List}
use Rattle.std.proofs.Common.{ap, ◌∙◌, add-zero, add-suc, arith}
use Rattle.std.proofs.Math.Nat.{add_assoc, mul_assoc, pow-suc}
use Rattle.std.proofs.Math.Pow.{high, low}
use Rattle.wire.specs.Field.{bit_at, field_at, field_lt}

module _ (s : List ℕ) (at a : ℕ) where
  pub split : (b : ℕ) → field_at s at (a + b) ≡ field_at s at a * 2 ^ b + field_at s (at + a) b
  unfolding field_at
  split zero = rw (add-zero a) (omega arith)
  split (suc b) = rw (add-suc, split b, pow-suc, ← mul_assoc, add_assoc at a b) (omega arith)

  -- the first bits are what a shift leaves
  pub first_bits : (b : ℕ) → field_at s at (a + b) / 2 ^ b ≡ field_at s at a
  first_bits b = ap (λ (x : ℕ). x / 2 ^ b) (split b) ∙ high (field_at s at a) b (field_lt s (at + a) b)

  -- the last bits are a remainder
  pub last_bits : (b : ℕ) → field_at s at (a + b) % 2 ^ b ≡ field_at s (at + a) b
  last_bits b = ap (λ (x : ℕ). x % 2 ^ b) (split b) ∙ low (field_at s at a) b (field_lt s (at + a) b)

-- bits between are the last of the first
pub inner_bits : (s : List ℕ) (at a b c : ℕ) → field_at s at (a + b + c) / 2 ^ c % 2 ^ b ≡ field_at s (at + a) b
inner_bits s at a b c = ap (λ (x : ℕ). x % 2 ^ b) (first_bits s at (a + b) c) ∙ last_bits s at a b

-- a field of one bit is that bit
pub one_bit : (s : List ℕ) (at : ℕ) → field_at s at 1 ≡ bit_at s at
unfolding field_at
one_bit s at = rw (add-zero at) (omega arith)

-- 'most significant first': of a field's bits the one with a before it and c after it is bit c of the number
pub field_bit : (s : List ℕ) (at a c : ℕ) → field_at s at (a + 1 + c) / 2 ^ c % 2 ≡ bit_at s (at + a)
field_bit s at a c = inner_bits s at a 1 c ∙ one_bit s (at + a)
