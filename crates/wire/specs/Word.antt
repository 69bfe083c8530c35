-- The word of an event: 32 bits that begin with its own, its kind on top. The first 19 hold any event whole, and the first 16 of these are the head.
use Rattle.std.specs.Prelude.{◌≡◌, ℕ, zero, suc, ◌+◌, ◌-◌, ◌*◌, ◌/◌, ◌%◌, ◌^◌, ◌<◌, ◌≤◌, Bool, true, false, ◌&&◌, List, [], ◌∷◌, length, ◌==◌, ◌≢◌, nat_lt, slice_index_or, if◌then◌else◌}
use Rattle.std.proofs.Math.Path.{refl, ap, subst}
use Rattle.std.proofs.Common.{sym, ap₂, ◌∙◌, arith, shr-shr}
use Rattle.std.proofs.lemmas.Bool.{false≢true}
use borrow.Author.Tests.{lt-ltb, le-ltb, ltb-true, ltb-false, eq-eqb, eqb-true}
use Rattle.std.proofs.lemmas.Nat.{shl-shr}
use Rattle.bits.specs.Choice.{branch, both_arms, and_left, and_right, both}
use Rattle.wire.specs.Field.{bits_in, field_at, field_lt}
use Rattle.wire.specs.Splitting.{first_bits, last_bits}
use Rattle.wire.specs.Head.{head_at, head_register, head_value, head_level}
use Rattle.wire.specs.Next.{most_bytes, last_pin, kind_bits, clocks_bits, kind_at, pin_at, size_of, bytes_to, fill_at, close_at, pin_or_refusal, event_at, next_at, cut_short, all_there}
use Rattle.event.specs.declared.Event.{Event}
use Rattle.event.specs.declared.Event.TheVariants.{Write, Read, PortAcknowledge, TimerAcknowledge, Pin, Clocks, Reset}
use Rattle.wire.specs.Next.{Next}
use Rattle.wire.specs.Next.{Play, End, Refused}

-- the word that says that no event stands there: the end's kind, and zeros
abbrev pub no_word : ℕ
no_word = 7 * 2 ^ 29

-- the bits from bit at to the end of the third byte after its own, on top of 32, with zeros below. Past the list's end a bit is 0
abbrev pub bits_from : List ℕ → ℕ → ℕ
bits_from s at = field_at s at (32 - at % 8) * 2 ^ (at % 8)

-- fewer bits remain than the event at a bit needs
abbrev cut_at : List ℕ → ℕ → Bool
cut_at s at = nat_lt (bits_in s) (at + size_of (kind_at s at))

-- an event of pin 28 to 31
abbrev no_pin_at : List ℕ → ℕ → Bool
no_pin_at s at = kind_at s at == 4 && nat_lt last_pin (pin_at s at)

-- the word at a bit of any list: the bits from there, unless fewer remain than the event needs or it is of pin 28 to 31
unfoldable pub word_of : List ℕ → ℕ → ℕ
word_of s at =
    if cut_at s at then no_word
    else if no_pin_at s at then no_word
    else bits_from s at

-- the same, with pins 28 to 31 among the events
unfoldable pub bits_of : List ℕ → ℕ → ℕ
bits_of s at = if cut_at s at then no_word else bits_from s at

-- the bits of an event, whatever its kind
abbrev word_at : List ℕ → ℕ → ℕ
word_at s at = field_at s at (kind_bits + clocks_bits)

-- a word's kind and head
abbrev pub kind_in : ℕ → ℕ
kind_in w = w / 2 ^ 29

abbrev pub head_in : ℕ → ℕ
head_in w = w / 2 ^ 16

-- the event of a word, in the order of the kinds
unfoldable pub event_in : ℕ → Event
event_in w =
    slice_index_or
    (Write (head_in w / 2 ^ 8 % 2 ^ 5) (head_in w % 2 ^ 8)
    ∷ Read (head_in w / 2 ^ 8 % 2 ^ 5)
    ∷ PortAcknowledge
    ∷ TimerAcknowledge
    ∷ Pin (head_in w / 2 ^ 8 % 2 ^ 5) (head_in w / 2 ^ 7 % 2 == 1)
    ∷ Clocks (w / 2 ^ 13 % 2 ^ 16 + 1)
    ∷ Reset
    ∷ [])
    (kind_in w) Reset

-- pin 28 to 31
abbrev pub no_pin : Event → Bool
no_pin (Write r v) = false
no_pin (Read r) = false
no_pin PortAcknowledge = false
no_pin TimerAcknowledge = false
no_pin (Pin n level) = nat_lt last_pin n
no_pin (Clocks n) = false
no_pin Reset = false

-- an event that is all there, unless it is of pin 28 to 31; after is the first bit after it
abbrev pub unless_no_pin : ℕ → Event → ℕ → Next
unless_no_pin at e after = if no_pin e then Refused 3 at else Play e after

-- the end or a refusal
abbrev pub NoEvent : Next → Type 0
NoEvent (Play e p) = ⊥
NoEvent End = Unit {0}
NoEvent (Refused r p) = Unit {0}

-- what a word that was read at a bit tells: the event that stands there; or, with the end's kind, that none does
pub record Tells (s : List ℕ) (at w : ℕ) : Type 0 where
  pub event : kind_in w < 7 → next_at s at ≡ Play (event_in w) (at + size_of (kind_in w))
  pub none : 7 ≤ kind_in w → NoEvent (next_at s at)

-- the event that a word tells, as its parts were found
pub plays : (s : List ℕ) (at w : ℕ) → Tells s at w → kind_in w < 7 → (e : Event) (size : ℕ) → e ≡ event_in w → size ≡ size_of (kind_in w) → next_at s at ≡ Play e (at + size)
plays s at w t l e size p q = t.event l ∙ (λ i. Play (sym p i) (at + sym q i))

-- every kind needs its own bits, and none needs more than clocks
pub record Sized (k : ℕ) : Type 0 where
  pub least : kind_bits ≤ size_of k
  pub most : size_of k ≤ kind_bits + clocks_bits

pub sized : (k : ℕ) → Sized k
unfolding size_of
sized zero = record { least = omega arith; most = omega arith }
sized (suc zero) = record { least = omega arith; most = omega arith }
sized (suc (suc zero)) = record { least = omega arith; most = omega arith }
sized (suc (suc (suc zero))) = record { least = omega arith; most = omega arith }
sized (suc (suc (suc (suc zero)))) = record { least = omega arith; most = omega arith }
sized (suc (suc (suc (suc (suc zero))))) = record { least = omega arith; most = omega arith }
sized (suc (suc (suc (suc (suc (suc zero)))))) = record { least = omega arith; most = omega arith }
sized (suc (suc (suc (suc (suc (suc (suc zero))))))) = record { least = omega arith; most = omega arith }
sized (suc (suc (suc (suc (suc (suc (suc (suc k)))))))) = record { least = omega arith; most = omega arith }

module _ (s : List ℕ) (at : ℕ) where
  -- the bits from there begin with those of the event
  read : bits_from s at / 2 ^ 13 ≡ word_at s at
  read =
      let k = at % 8 in
      let m : 32 - k ≡ 19 + (13 - k) = omega arith in
      let n : 13 ≡ k + (13 - k) = omega arith in
      ap₂ (λ (m n : ℕ). field_at s at m * 2 ^ k / 2 ^ n) m n
      ∙ sym (shr-shr (field_at s at (19 + (13 - k)) * 2 ^ k) k (13 - k))
      ∙ ap (λ (x : ℕ). x / 2 ^ (13 - k)) (shl-shr (field_at s at (19 + (13 - k))) k)
      ∙ first_bits s at 19 (13 - k)

  -- their parts
  pub kind_is : kind_in (bits_from s at) ≡ kind_at s at
  kind_is = sym (shr-shr (bits_from s at) 13 16) ∙ ap (λ (x : ℕ). x / 2 ^ 16) read ∙ first_bits s at kind_bits 16

  head_is : head_in (bits_from s at) ≡ head_at s at
  head_is = sym (shr-shr (bits_from s at) 13 3) ∙ ap (λ (x : ℕ). x / 2 ^ 3) read ∙ first_bits s at 16 3

  pin_is : head_in (bits_from s at) / 2 ^ 8 % 2 ^ 5 ≡ pin_at s at
  pin_is = head_register s at head_is

  clocks_is : bits_from s at / 2 ^ 13 % 2 ^ 16 ≡ field_at s (at + kind_bits) clocks_bits
  clocks_is = ap (λ (x : ℕ). x % 2 ^ 16) read ∙ last_bits s at kind_bits clocks_bits

  -- where fewer bits are there than an event needs
  pub cut : bits_in s < at + size_of (kind_at s at) → no_word ≡ bits_of s at
  unfolding bits_of
  cut lacking = simp (lt-ltb (bits_in s) (at + size_of (kind_at s at)) lacking)

  pub past_end : length s ≤ at / 8 → no_word ≡ bits_of s at
  past_end past = cut (omega (arith, (sized (kind_at s at)).least))

  -- where all of them are
  pub whole : at + size_of (kind_at s at) ≤ bits_in s → bits_from s at ≡ bits_of s at
  unfolding bits_of
  whole there = simp (le-ltb (bits_in s) (at + size_of (kind_at s at)) there)

  -- where the four bytes from its first are there, so are all that any kind needs
  pub four_there : at / 8 + 3 < length s → bits_from s at ≡ bits_of s at
  four_there there = whole (omega (arith, (sized (kind_at s at)).most))

  -- an event of pin 28 to 31, as facts
  abbrev NoPin : Type 0
  NoPin = (kind_at s at ≡ 4) × (last_pin < pin_at s at)

  no_pin_there : no_pin_at s at ≡ true → NoPin
  no_pin_there t = (
    eqb-true (kind_at s at) 4 (and_left (kind_at s at == 4) (nat_lt last_pin (pin_at s at)) t),
    ltb-true last_pin (pin_at s at) (and_right (kind_at s at == 4) (nat_lt last_pin (pin_at s at)) t),
  )

  pin_there : no_pin_at s at ≡ false → NoPin → ⊥
  pin_there f p = false≢true (sym f ∙ both (kind_at s at == 4) (nat_lt last_pin (pin_at s at)) (eq-eqb (kind_at s at) 4 p.0) (lt-ltb last_pin (pin_at s at) p.1))

  -- pins 28 to 31 are those whose first three bits are set
  pub pin_bits_set : bits_of s at / 2 ^ 26 ≡ 39 → no_word ≡ word_of s at
  unfolding word_of bits_of
  pin_bits_set =
      both_arms (λ (w r : ℕ). w / 2 ^ 26 ≡ 39 → no_word ≡ r) (cut_at s at) no_word no_word (bits_from s at) _
      (λ _. refl)
      (λ top.
      let k : kind_at s at ≡ 4 = omega (arith, kind_is) in
      let n : last_pin < pin_at s at = omega (arith, pin_is) in
      simp (eq-eqb (kind_at s at) 4 k, lt-ltb last_pin (pin_at s at) n))

  pub other : (bits_of s at / 2 ^ 26 ≢ 39) → bits_of s at ≡ word_of s at
  unfolding word_of bits_of
  other =
      both_arms (λ (w r : ℕ). (w / 2 ^ 26 ≢ 39) → w ≡ r) (cut_at s at) no_word no_word (bits_from s at) _
      (λ _. refl)
      (λ not.
      branch (λ (r : ℕ). bits_from s at ≡ r) (no_pin_at s at) no_word (bits_from s at)
      (λ t. absurd (not (omega (arith, kind_is, pin_is, (no_pin_there t).0, (no_pin_there t).1))))
      (λ _. refl))

  -- what stands there, all of it there, is the event of these bits, or is none; after is the first bit after it
  by_kind : (after k : ℕ) → kind_at s at ≡ k → k < 7 → (k ≡ 4 → pin_at s at ≤ last_pin) → event_at s at after (kind_at s at) ≡ Play (event_in (bits_from s at)) after
  unfolding event_at event_in pin_or_refusal
  by_kind after zero k l pin = simp (k, kind_is ∙ k, head_register s at head_is, head_value s at head_is)
  by_kind after (suc zero) k l pin = simp (k, kind_is ∙ k, head_register s at head_is)
  by_kind after (suc (suc zero)) k l pin = simp (k, kind_is ∙ k)
  by_kind after (suc (suc (suc zero))) k l pin = simp (k, kind_is ∙ k)
  by_kind after (suc (suc (suc (suc zero)))) k l pin =
      simp (k, kind_is ∙ k, le-ltb last_pin (pin_at s at) (pin refl), pin_is, head_level s at head_is)
  by_kind after (suc (suc (suc (suc (suc zero))))) k l pin = simp (k, kind_is ∙ k, clocks_is)
  by_kind after (suc (suc (suc (suc (suc (suc zero)))))) k l pin = simp (k, kind_is ∙ k)
  by_kind after (suc (suc (suc (suc (suc (suc (suc k))))))) e l pin = absurd (omega arith)

  -- what stands there, all of it there, is the event of these bits unless its pin is none, or is no event; after is the first bit after it
  of_kind : (after k : ℕ) → kind_at s at ≡ k → k ≢ 7 → event_at s at after (kind_at s at) ≡ unless_no_pin at (event_in (bits_from s at)) after
  unfolding event_at event_in pin_or_refusal
  of_kind after zero k end = simp (k, kind_is ∙ k, head_register s at head_is, head_value s at head_is)
  of_kind after (suc zero) k end = simp (k, kind_is ∙ k, head_register s at head_is)
  of_kind after (suc (suc zero)) k end = simp (k, kind_is ∙ k)
  of_kind after (suc (suc (suc zero))) k end = simp (k, kind_is ∙ k)
  of_kind after (suc (suc (suc (suc zero)))) k end = simp (k, kind_is ∙ k, pin_is, head_level s at head_is)
  of_kind after (suc (suc (suc (suc (suc zero))))) k end = simp (k, kind_is ∙ k, clocks_is)
  of_kind after (suc (suc (suc (suc (suc (suc zero)))))) k end = simp (k, kind_is ∙ k)
  of_kind after (suc (suc (suc (suc (suc (suc (suc zero))))))) k end = absurd (end refl)
  of_kind after (suc (suc (suc (suc (suc (suc (suc (suc k)))))))) e end = absurd (omega (arith, e, field_lt s at kind_bits))

  -- of a list that is not too long the bits tell the event that stands there, unless its pin is one of these
  pub bits_tell : length s ≤ most_bytes → kind_in (bits_of s at) ≢ 7 → next_at s at ≡ unless_no_pin at (event_in (bits_of s at)) (at + size_of (kind_in (bits_of s at)))
  unfolding bits_of
  bits_tell short = branch (λ (w : ℕ). kind_in w ≢ 7 → next_at s at ≡ unless_no_pin at (event_in w) (at + size_of (kind_in w))) (cut_at s at) no_word (bits_from s at)
      (λ c none. absurd (none refl))
      (λ f none.
      all_there s at short (ltb-false (bits_in s) (at + size_of (kind_at s at)) f)
      ∙ of_kind (at + size_of (kind_at s at)) (kind_at s at) refl (λ k. none (kind_is ∙ k))
      ∙ ap (λ (k : ℕ). unless_no_pin at (event_in (bits_from s at)) (at + size_of k)) (sym kind_is))

  closing : (after : ℕ) → kind_at s at ≡ 7 → NoEvent (event_at s at after (kind_at s at))
  unfolding event_at close_at
  closing after k =
      rw k
      (branch NoEvent (nat_lt 0 (fill_at s after)) _ _
      (λ _. tt)
      (λ _. branch NoEvent (nat_lt (bytes_to after) (length s)) _ _ (λ _. tt) (λ _. tt)))

  pub told_there : kind_in (bits_of s at) ≢ 7 → at + size_of (kind_in (bits_of s at)) ≤ bits_in s
  unfolding bits_of
  told_there =
      branch (λ (w : ℕ). kind_in w ≢ 7 → at + size_of (kind_in w) ≤ bits_in s) (cut_at s at) no_word (bits_from s at)
      (λ c none. absurd (none refl))
      (λ f none. let n = ap size_of kind_is in let there = ltb-false (bits_in s) (at + size_of (kind_at s at)) f in omega (arith, n, there))

  -- where they tell no event, all that the kind needs being there, the end mark stands
  pub end_told : kind_in (bits_of s at) ≡ 7 → at + size_of (kind_at s at) ≤ bits_in s → length s ≤ most_bytes → next_at s at ≡ close_at s (at + kind_bits)
  unfolding event_at size_of
  end_told none there short =
      let end : kind_at s at ≡ 7 = sym kind_is ∙ ap kind_in (whole there) ∙ none in
      all_there s at short there ∙ ap (λ (k : ℕ). event_at s at (at + size_of k) k) end

  no_such_pin : (after : ℕ) → NoPin → event_at s at after (kind_at s at) ≡ Refused 3 at
  unfolding event_at pin_or_refusal
  no_such_pin after p = simp (p.0, lt-ltb last_pin (pin_at s at) p.1)

  refused : (r p : ℕ) → next_at s at ≡ Refused r p → Tells s at no_word
  refused r p e = record { event = λ l. absurd (omega arith); none = λ _. subst NoEvent (sym e) tt }

  -- of a list that is not too long the word tells what stands there
  pub word_of_tells : length s ≤ most_bytes → Tells s at (word_of s at)
  unfolding word_of
  word_of_tells short =
      branch (Tells s at) (cut_at s at) no_word _
      (λ c. refused 2 at (cut_short s at short (ltb-true (bits_in s) (at + size_of (kind_at s at)) c)))
      (λ f.
      let standing = all_there s at short (ltb-false (bits_in s) (at + size_of (kind_at s at)) f) in
      branch (Tells s at) (no_pin_at s at) no_word (bits_from s at)
      (λ t. refused 3 at (standing ∙ no_such_pin (at + size_of (kind_at s at)) (no_pin_there t)))
      (λ n. record {
        event =
            λ l.
            standing
            ∙ by_kind (at + size_of (kind_at s at)) (kind_at s at) refl (omega (arith, kind_is)) (λ k. let some : last_pin < pin_at s at → ⊥ = λ m. pin_there n (k, m) in omega (arith, some))
            ∙ ap (λ (k : ℕ). Play (event_in (bits_from s at)) (at + size_of k)) (sym kind_is);
        none = λ end. subst NoEvent (sym standing) (closing (at + size_of (kind_at s at)) (omega (arith, kind_is, field_lt s at kind_bits)));
      }))
