-- Bit n of what `pit_levels` answers is the level shown at pin n (include/pit.h).
use Rattle.std.specs.Prelude.{ℕ, suc, ◌+◌, ◌-◌, ◌*◌, ◌/◌, ◌%◌, ◌^◌, ◌<◌, ◌≤◌, ◌≡◌, Bool, true, false, List, eqb, if◌then◌else◌}
use Rattle.std.proofs.Common.{zero-le, sym, ap, ◌∙◌, lt_of_le_of_lt, lt_of_not-le, lit<, shr-shr}
use Rattle.std.proofs.Math.Path.{refl}
use Rattle.std.specs.Bool.{beq}
use native.Mathlib.Omega.{arith}
use Rattle.std.proofs.lemmas.Nat.{and_le_l, or_lt}
use Rattle.std.proofs.Math.Pow.{field, mod-mod-pow}
use Rattle.bits.specs.Choice.{beq_true}
use Rattle.bits.specs.Field.{bit_of, chosen_of, packed_of}
use Rattle.bits.specs.Trying.{Trial, any_bool, ◌and◌}
use Rattle.port.specs.declared.Pair.TheVariants.{H12, H34}
use Rattle.port_c.specs.Pins.{shown_of}
use Rattle.parallel.specs.Parts.{own_port}
use Rattle.parallel.specs.Pins.{pins_of, second_level}
use Rattle.device.specs.Pinned.{any_pin}
use Rattle.device.specs.Pins.{pins_c, level_of}
use Rattle.device.specs.declared.Device.{Device}
use Rattle.pit_c.specs.Layout.{byte_at, parallel_of, device_of}
use Rattle.pit_c.specs.Calls.{levels_of}

-- a number's low byte has its bits 0 to 7
low : (n k : ℕ) → k < 8 → n / 2 ^ k % 2 ≡ n % 2 ^ 8 / 2 ^ k % 2
low n k h =
    let e : 8 ≡ 7 - k + 1 + k = omega arith in
    sym (ap (λ (w : ℕ). n % 2 ^ w / 2 ^ k % 2) e ∙ (ap (λ (m : ℕ). m % 2) (field n (7 - k + 1) k) ∙ mod-mod-pow (n / 2 ^ k) (7 - k) 1))

-- the bits of a byte x that stands from bit i of a number on, under a rest y
byte_bit : (m x y i n : ℕ) → m / 2 ^ i ≡ x + y * 0x100 → i ≤ n → n < i + 8 → bit_of m n ≡ bit_of x (n - i)
unfolding bit_of
byte_bit m x y i n e g h =
    let s : n ≡ i + (n - i) = omega arith in
    let k : n - i < 8 = omega arith in
    let same : (x + y * 0x100) % 0x100 ≡ x % 0x100 = omega arith in
    let bits : m / 2 ^ (i + (n - i)) % 2 ≡ x / 2 ^ (n - i) % 2 =
    rw (← shr-shr m i (n - i), e, low (x + y * 0x100) (n - i) k, same) (sym (low x (n - i) k)) in
    ap (λ (j : ℕ). eqb (m / 2 ^ j % 2) 1) s ∙ ap (λ (b : ℕ). eqb b 1) bits

abbrev four : Trial (Bool × (Bool × (Bool × Bool)))
four = any_bool and (any_bool and (any_bool and any_bool))

-- the byte of H1 to H4
abbrev handshakes : Bool × (Bool × (Bool × Bool)) → ℕ
handshakes x = packed_of false false false false x.0 x.1.0 x.1.1.0 x.1.1.1

-- bit k of it is one of them, where that is so of all sixteen
handshake_bit : (k : ℕ) (f : Bool × (Bool × (Bool × Bool)) → Bool) → four.every (λ x. beq (bit_of (handshakes x) k) (f x)) ≡ true
    → (x : Bool × (Bool × (Bool × Bool))) → bit_of (handshakes x) k ≡ f x
handshake_bit k f e x = beq_true _ _ (four.any (λ x. beq (bit_of (handshakes x) k) (f x)) e x (tt, (tt, (tt, tt))))

-- eight conditions make a byte
packed_lt : (b7 b6 b5 b4 b3 b2 b1 b0 : Bool) → packed_of b7 b6 b5 b4 b3 b2 b1 b0 < 2 ^ 8
unfolding packed_of
packed_lt b7 b6 b5 b4 b3 b2 b1 b0 =
    or_lt 8 _ _ (or_lt 8 _ _ (or_lt 8 _ _ (or_lt 8 _ _ (or_lt 8 _ _ (or_lt 8 _ _ (or_lt 8 _ _
    (weight b7 128 (lit< tt))
    (weight b6 64 (lit< tt)))
    (weight b5 32 (lit< tt)))
    (weight b4 16 (lit< tt)))
    (weight b3 8 (lit< tt)))
    (weight b2 4 (lit< tt)))
    (weight b1 2 (lit< tt)))
    (weight b0 1 (lit< tt))
  where
    weight : (b : Bool) (n : ℕ) → n < 2 ^ 8 → (if b then n else 0) < 2 ^ 8
    weight true n h = h
    weight false n h = lit< tt

-- so do latch and outside levels
chosen_lt : (level latch direction : ℕ) → level < 2 ^ 8 → latch < 2 ^ 8 → chosen_of level latch direction < 2 ^ 8
unfolding chosen_of
chosen_lt level latch direction h k =
    or_lt 8 _ _ (lt_of_le_of_lt (and_le_l level (255 - direction)) h) (lt_of_le_of_lt (and_le_l latch direction) k)

-- there is no other pin
past : (n : ℕ) → n < 28 → (0 ≤ n → n < 8 → ⊥) → (8 ≤ n → n < 16 → ⊥) → (16 ≤ n → n < 24 → ⊥)
    → (n ≡ 24 → ⊥) → (n ≡ 25 → ⊥) → (n ≡ 26 → ⊥) → (n ≡ 27 → ⊥) → ⊥
past n h a b c h1 h2 h3 h4 =
    let b8 : 8 < suc n = lt_of_not-le (a zero-le) in
    let c8 : 16 < suc n = lt_of_not-le (b (omega arith)) in
    let h8 : 24 < suc n = lt_of_not-le (c (omega arith)) in
    omega arith

module _ (d : Device) (a8 : pins_of d.parallel H12 < 2 ^ 8) (b8 : pins_of d.parallel H34 < 2 ^ 8) (c8 : pins_c d < 2 ^ 8) where
  abbrev levels : Bool × (Bool × (Bool × Bool))
  levels = (second_level d.parallel H34, (d.parallel.h34.level1, (second_level d.parallel H12, d.parallel.h12.level1)))

  -- pin 24 + k
  handshake : (n k : ℕ) (f : Bool × (Bool × (Bool × Bool)) → Bool) → four.every (λ x. beq (bit_of (handshakes x) k) (f x)) ≡ true
      → k < 8 → n ≡ 24 + k → bit_of (levels_of d) n ≡ f levels
  unfolding levels_of
  handshake n k f e h s =
      let j : n - 24 ≡ k = omega arith in
      byte_bit (levels_of d) (handshakes levels) 0 24 n (omega arith) (omega arith) (omega arith)
      ∙ (ap (λ (m : ℕ). bit_of (handshakes levels) m) j ∙ handshake_bit k f e levels)

  shown : (n : ℕ) → n < 28 → bit_of (levels_of d) n ≡ level_of d n
  unfolding levels_of level_of bit_of packed_of
  shown n h =
      let b = pins_of d.parallel H34 in
      let c = pins_c d in
      let hs = handshakes levels in
      any_pin (λ level. bit_of (levels_of d) n ≡ level) _ _ _ _ _ _ _ _ n
      (λ o. absurd (past n h o.0 o.1.0 o.1.1.0 o.1.1.1.0 o.1.1.1.1.0 o.1.1.1.1.1.0 o.1.1.1.1.1.1.0))
      (λ g k. byte_bit (levels_of d) (pins_of d.parallel H12) (b + c * 0x100 + hs * 0x10000) 0 n (omega arith) g k)
      (λ g k. byte_bit (levels_of d) b (c + hs * 0x100) 8 n (omega arith) g k)
      (λ g k. byte_bit (levels_of d) c hs 16 n (omega arith) g k)
      (handshake n 0 (λ x. x.1.1.1) refl (lit< tt))
      (handshake n 1 (λ x. x.1.1.0) refl (lit< tt))
      (handshake n 2 (λ x. x.1.0) refl (lit< tt))
      (handshake n 3 (λ x. x.0) refl (lit< tt))

-- every pin, of a device taken out of bytes
pub level_bit : (l : List ℕ) → ((i : ℕ) → byte_at l i < 2 ^ 8) → (n : ℕ) → n < 28 → bit_of (levels_of (device_of l)) n ≡ level_of (device_of l) n
unfolding pins_of own_port pins_c shown_of parallel_of
level_bit l b = shown (device_of l) (chosen_lt _ _ _ (b _) (b _)) (chosen_lt _ _ _ (b _) (b _)) (packed_lt _ _ _ _ _ _ _ _)
