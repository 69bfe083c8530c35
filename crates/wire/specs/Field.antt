-- 01, 'The event list': 'Bit-packed fields, most significant first, from the top bit of byte 0.'
use Rattle.std.specs.Prelude.{◌≡◌, ℕ, zero, suc, ◌+◌, ◌-◌, ◌*◌, ◌/◌, ◌%◌, ◌^◌, ◌<◌, List, length, slice_index}
use Rattle.std.proofs.Math.Path.{subst, sym}
use Rattle.std.proofs.Math.Logic.{⊎_elim}
use Rattle.std.proofs.Math.Nat.{pow-suc}
use Rattle.std.proofs.Common.{eq-or-lt_of_le, le_of_suc-le-suc}
use native.Mathlib.Omega.{arith}

-- how many bits a list of bytes has
abbrev pub bits_in : List ℕ → ℕ
bits_in s = length s * 8

-- bit i of a list of bytes: bit 0 is the top bit of byte 0. Past the end it is 0
abbrev pub bit_at : List ℕ → ℕ → ℕ
bit_at s i = slice_index s (i / 8) / 2 ^ (7 - i % 8) % 2

-- the field of so many bits from bit at: the number that they spell, most significant first
unfoldable pub field_at : List ℕ → ℕ → ℕ → ℕ
field_at s at zero = 0
field_at s at (suc width) = field_at s at width * 2 + bit_at s (at + width)

module _ (s : List ℕ) (at : ℕ) where
  -- a field of so many bits is below that power of two
  pub field_lt : (width : ℕ) → field_at s at width < 2 ^ width
  unfolding field_at
  field_lt zero = omega arith
  field_lt (suc width) =
      let h = field_lt width in
      let b : bit_at s (at + width) < 2 = omega arith in
      rw pow-suc (omega arith)

  -- a field is 0 where each of its bits is, and only there
  pub field_zero_bits : (width : ℕ) → field_at s at width ≡ 0 → (i : ℕ) → i < width → bit_at s (at + i) ≡ 0
  unfolding field_at
  field_zero_bits zero none i l = absurd (omega arith)
  field_zero_bits (suc width) none i l =
      ⊎_elim
      (λ e. subst (λ (j : ℕ). bit_at s (at + j) ≡ 0) (sym e) (omega arith))
      (λ m. field_zero_bits width (omega arith) i m)
      (eq-or-lt_of_le (le_of_suc-le-suc l))

  pub bits_zero_field : (width : ℕ) → ((i : ℕ) → i < width → bit_at s (at + i) ≡ 0) → field_at s at width ≡ 0
  unfolding field_at
  bits_zero_field zero each = omega arith
  bits_zero_field (suc width) each =
      let h = bits_zero_field width (λ i l. each i (omega arith)) in
      let b = each width (omega arith) in
      omega arith

  -- a field is over 0 where one of its bits is 1, and only there
  pub field_set_bit : (width : ℕ) → 0 < field_at s at width → (i : ℕ) × (i < width) × (bit_at s (at + i) ≡ 1)
  unfolding field_at
  field_set_bit zero some = absurd (omega arith)
  field_set_bit (suc width) some =
      ⊎_elim
      (λ e.
      let none : field_at s at width ≡ 0 = sym e in
      (width, omega arith, omega arith))
      (λ m. let w = field_set_bit width m in (w.0, omega arith, w.2))
      (eq-or-lt_of_le {n = 0} {m = field_at s at width} (omega arith))

  pub bit_set_field : (width i : ℕ) → i < width → bit_at s (at + i) ≡ 1 → 0 < field_at s at width
  unfolding field_at
  bit_set_field zero i l one = absurd (omega arith)
  bit_set_field (suc width) i l one =
      ⊎_elim
      (λ e. let b : bit_at s (at + width) ≡ 1 = subst (λ (j : ℕ). bit_at s (at + j) ≡ 1) e one in omega arith)
      (λ m. let h = bit_set_field width i m one in omega arith)
      (eq-or-lt_of_le (le_of_suc-le-suc l))
