-- Four bytes of a list are a field of 32 bits, and a field that lies within them is a shift and a remainder of it.
use Rattle.std.proofs.Common.{◌≡◌, ℕ, zero, suc, ◌+◌, ◌-◌, ◌*◌, ◌/◌, ◌%◌, ◌^◌, ◌<◌, ◌≤◌, List, [], ◌∷◌, get_or, sym, ap, ◌∙◌, ap₂, add-zero, div-add-mod', arith, shr-shr}
use native.Mathlib.Nat.{div-eq_of_lt, mul-mod_left}
use lib.Bits.{bit_and, and_mask}
use lib.Pow as pow
use Rattle.std.specs.Int.{w32, from_be_bytes}
use Rattle.wire.specs.Field.{field_at}
use Rattle.wire.specs.Splitting.{split, last_bits, inner_bits}
use Rattle.wire.specs.Word.{bits_from}

module _ (s : List ℕ) where
  -- a field that lies within n bits from a byte's first, by its place in that byte
  pub field_window : (n at w : ℕ) → at % 8 + w ≤ n → field_at s (at / 8 * 8) n / 2 ^ (n - at % 8 - w) % 2 ^ w ≡ field_at s at w
  field_window n at w l =
      ap (λ (m : ℕ). field_at s (at / 8 * 8) m / 2 ^ (n - at % 8 - w) % 2 ^ w) (omega arith)
      ∙ inner_bits s (at / 8 * 8) (at % 8) w (n - at % 8 - w)
      ∙ ap (λ (p : ℕ). field_at s p w) (div-add-mod' at 8)

  module _ (bytes : (i : ℕ) → get_or s i 0 < 256) where
    -- the first bits of a byte are what a shift leaves of it
    first_of_byte : (i w : ℕ) → w ≤ 8 → field_at s (i * 8) w ≡ get_or s i 0 / 2 ^ (8 - w)
    unfolding field_at
    first_of_byte i zero l = sym (div-eq_of_lt (bytes i))
    first_of_byte i (suc w) l =
        ap₂ (λ (x y : ℕ). x * 2 + y)
        (first_of_byte i w (omega arith) ∙ ap (λ (q : ℕ). get_or s i 0 / 2 ^ q) (omega arith) ∙ sym (shr-shr (get_or s i 0) (8 - suc w) 1))
        (ap₂ (λ (p q : ℕ). get_or s p 0 / 2 ^ q % 2) (omega arith) (omega arith))
        ∙ pow.split (get_or s i 0 / 2 ^ (8 - suc w)) 1

    byte : (i at : ℕ) → at ≡ i * 8 → field_at s at 8 ≡ get_or s i 0
    byte i at e = ap (λ (p : ℕ). field_at s p 8) e ∙ first_of_byte i 8 (omega arith) ∙ omega arith

    pub four_bytes : (i : ℕ)
        → from_be_bytes w32 (get_or s i 0 ∷ get_or s (i + 1) 0 ∷ get_or s (i + 2) 0 ∷ get_or s (i + 3) 0 ∷ []) ≡ field_at s (i * 8) 32
    four_bytes i =
        let b0 = byte i (i * 8) (omega arith) in
        let b1 = byte (i + 1) (i * 8 + 8) (omega arith) in
        let b2 = byte (i + 2) (i * 8 + 16) (omega arith) in
        let b3 = byte (i + 3) (i * 8 + 24) (omega arith) in
        omega (arith, split s (i * 8) 24 8, split s (i * 8) 16 8, split s (i * 8) 8 8)

-- what a shift within 32 bits keeps of a number
shifted : (x k : ℕ) → k ≤ 32 → x * 2 ^ k % 2 ^ 32 ≡ x % 2 ^ (32 - k) * 2 ^ k
shifted x k l =
    let e : 32 ≡ 32 - k + k = omega arith in
    ap (λ (n : ℕ). x * 2 ^ k % 2 ^ n) e
    ∙ pow.mod-pow-add (x * 2 ^ k) (32 - k) k
    ∙ ap₂ (λ (y z : ℕ). y % 2 ^ (32 - k) * 2 ^ k + z) (pow.shl-shr x k) (mul-mod_left x (2 ^ k))
    ∙ add-zero (x % 2 ^ (32 - k) * 2 ^ k)

-- four bytes, shifted up to a bit's place, are the bits from there
pub word_window : (s : List ℕ) (at bytes : ℕ) → bytes ≡ field_at s (at / 8 * 8) 32 → bytes * 2 ^ (bit_and at 7) % 2 ^ 32 ≡ bits_from s at
word_window s at bytes e =
    let k = at % 8 in
    let n : 32 ≡ k + (32 - k) = omega arith in
    ap₂ (λ (x k : ℕ). x * 2 ^ k % 2 ^ 32) (e ∙ ap (field_at s (at / 8 * 8)) n) (and_mask at 3)
    ∙ shifted (field_at s (at / 8 * 8) (k + (32 - k))) k (omega arith)
    ∙ ap (λ (y : ℕ). y * 2 ^ k) (last_bits s (at / 8 * 8) k (32 - k) ∙ ap (λ (p : ℕ). field_at s p (32 - k)) (div-add-mod' at 8))
