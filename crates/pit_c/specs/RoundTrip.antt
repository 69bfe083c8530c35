-- The layout loses nothing: a device is read back from its bytes as it was stored, and bytes with every flag 0 or 1 are stored back as
-- they were read.
use Rattle.std.specs.Prelude.{ℕ, zero, suc, ◌+◌, ◌*◌, ◌/◌, ◌%◌, ◌^◌, ◌<◌, ◌≡◌, refl, Bool, true, false, not, ◌||◌, List, [], ◌∷◌, eqb, length, drop, if◌then◌else◌}
use Rattle.std.proofs.Common.{sym, arith, drop_of_length-le, drop-cons}
use Rattle.std.proofs.lemmas.Nat.{from_le_bytes-to_le_bytes_4}
use Rattle.bits.specs.Choice.{branch}
use Rattle.device.specs.declared.Device.{Device}
use Rattle.pit_c.specs.Layout.{size, flag_byte, bytes_of, byte_at, flag_at, number_of, number_at, preload_place, count_place}
use Rattle.pit_c.specs.Layout.{parallel_of, gate_of, device_of}

-- preload and count are 32-bit numbers, as every device's are
pub record Fits (d : Device) : Type 0 where
  pub preload : d.gate.timer.preload.0 < 2 ^ 32
  pub count : d.gate.timer.count.0 < 2 ^ 32

flag_back : (b : Bool) → not (eqb (flag_byte b) 0) ≡ b
flag_back true = refl
flag_back false = refl

-- a device is read back as it was stored
pub device_back : (d : Device) → Fits d → device_of (bytes_of d) ≡ d
unfolding parallel_of gate_of bytes_of
device_back d f =
    simp (flag_back, from_le_bytes-to_le_bytes_4 d.gate.timer.preload.0 f.preload, from_le_bytes-to_le_bytes_4 d.gate.timer.count.0 f.count)

-- four bytes make a 32-bit number
number_lt : (l : List ℕ) → ((i : ℕ) → byte_at l i < 2 ^ 8) → (i : ℕ) → number_at l i < 2 ^ 32
number_lt l b i = omega (arith, b i, b (i + 1), b (i + 2), b (i + 3))

-- every device taken out of bytes is such a device
pub taken_fits : (l : List ℕ) → ((i : ℕ) → byte_at l i < 2 ^ 8) → Fits (device_of l)
unfolding gate_of
taken_fits l b = record { preload = number_lt l b preload_place; count = number_lt l b count_place }

-- where the flags stand
abbrev pub flag_places : List ℕ
flag_places = 13 ∷ 14 ∷ 15 ∷ 26 ∷ 27 ∷ 28 ∷ 42 ∷ 43 ∷ 44 ∷ 48 ∷ 49 ∷ 50 ∷ 51 ∷ 52 ∷ []

-- a place is one of these
abbrev pub among : ℕ → List ℕ → Bool
among i [] = false
among i (p ∷ ps) = eqb i p || among i ps

-- a device's bytes with every flag 0 or 1
pub record Plain (l : List ℕ) : Type 0 where
  pub long : length l ≡ size
  pub bytes : (i : ℕ) → byte_at l i < 2 ^ 8
  pub flags : (i : ℕ) → among i flag_places ≡ true → byte_at l i < 2

flag_same : (b : ℕ) → b < 2 → flag_byte (not (eqb b 0)) ≡ b
flag_same zero h = refl
flag_same (suc zero) h = refl
flag_same (suc (suc b)) h = absurd (omega arith)

-- a number's bytes are the four that it was made of
record Same (n b0 b1 b2 b3 : ℕ) : Type 0 where
  first : n % 0x100 ≡ b0
  second : n / 0x100 % 0x100 ≡ b1
  third : n / 0x10000 % 0x100 ≡ b2
  fourth : n / 0x1000000 % 0x100 ≡ b3

number_same : (b0 b1 b2 b3 : ℕ) → b0 < 2 ^ 8 → b1 < 2 ^ 8 → b2 < 2 ^ 8 → b3 < 2 ^ 8 → Same (number_of b0 b1 b2 b3) b0 b1 b2 b3
number_same b0 b1 b2 b3 h0 h1 h2 h3 =
    let n = number_of b0 b1 b2 b3 in
    let d1 : n / 0x100 ≡ b1 + b2 * 0x100 + b3 * 0x10000 = omega arith in
    let d2 : n / 0x10000 ≡ b2 + b3 * 0x100 = omega arith in
    let d3 : n / 0x1000000 ≡ b3 = omega arith in
    record { first = omega arith; second = rw d1 (omega arith); third = rw d2 (omega arith); fourth = rw d3 (omega arith) }

same_at : (l : List ℕ) → ((i : ℕ) → byte_at l i < 2 ^ 8) → (i : ℕ)
    → Same (number_at l i) (byte_at l i) (byte_at l (i + 1)) (byte_at l (i + 2)) (byte_at l (i + 3))
same_at l b i = number_same _ _ _ _ (b i) (b (i + 1)) (b (i + 2)) (b (i + 3))

-- n bytes from place i on, one by one
abbrev listed : List ℕ → ℕ → ℕ → List ℕ
listed l i zero = []
listed l i (suc n) = byte_at l i ∷ listed l (suc i) n

-- with each flag as it is stored back
abbrev tidied : List ℕ → ℕ → ℕ → List ℕ
tidied l i zero = []
tidied l i (suc n) = (if among i flag_places then flag_byte (flag_at l i) else byte_at l i) ∷ tidied l (suc i) n

spelled : (l : List ℕ) (n i : ℕ) → length l ≡ i + n → drop i l ≡ listed l i n
spelled l zero i h = drop_of_length-le l {i = i} (omega arith)
spelled l (suc n) i h = rw (drop-cons l i 0 (omega arith), spelled l n (suc i) (omega arith))

tidy : (l : List ℕ) → Plain l → (n i : ℕ) → tidied l i n ≡ listed l i n
tidy l p zero i = refl
tidy l p (suc n) i =
    let e : (if among i flag_places then flag_byte (flag_at l i) else byte_at l i) ≡ byte_at l i =
    branch (λ x. x ≡ byte_at l i) (among i flag_places) _ _ (λ m. flag_same (byte_at l i) (p.flags i m)) (λ _. refl) in
    rw (e, tidy l p n (suc i))

-- bytes are stored back as they were read
pub bytes_back : (l : List ℕ) → Plain l → bytes_of (device_of l) ≡ l
unfolding parallel_of gate_of bytes_of
bytes_back l p =
    let m = same_at l p.bytes preload_place in
    let n = same_at l p.bytes count_place in
    rw (m.first, m.second, m.third, m.fourth, n.first, n.second, n.third, n.fourth)
    (rw (tidy l p size 0) (sym (spelled l size 0 p.long)))
