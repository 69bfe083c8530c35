-- 01's table of refusals, for a whole call: each number is given exactly when its row says, and at that place.
-- 'Test 8 goes ahead, then 1, then 2 and 3 event by event, then 4, 5, 6, 7.'
use Rattle.std.specs.Prelude.{ℕ, ◌+◌, ◌*◌, ◌≤◌, ◌<◌, false, List, ◌↔◌, ◌≡◌, refl, ltb}
use Rattle.std.proofs.Math.Bool.{true}
use Rattle.std.proofs.Math.Path.{sym}
use Rattle.std.proofs.Common.{arith}
use borrow.Author.Tests.{lt-ltb, le-ltb, ltb-true, ltb-false}
use Rattle.std.proofs.Math.ListN.{length}
use Rattle.bits.specs.Choice.{branch}
use Rattle.event.specs.declared.Event.{Event}
use Rattle.wire.specs.Next.{most_bytes, kind_bits, bytes_to}
use Rattle.wire.specs.List.{Parsed, events, refused, parsed}
use Rattle.wire.specs.Needs.{needs_of}
use Rattle.wire.specs.Finds.{CutShort, NoPin, FillSet, ByteFollows}
use Rattle.wire.specs.Refusals as reader
use Rattle.wire.specs.Refusals.{Reaches}
use Rattle.device.specs.Events.{made}
use Rattle.device.specs.Validity.{valid_of}
use Rattle.device.specs.declared.Device.{Device}
use Rattle.play.specs.Play.{Result, refusal, acceptance, settle, play_of}
use Rattle.survey.specs.Needed.{answers_needed}

-- 'A refused call returns number, place, zero answers, openings and clocks, and the device it was given; nothing lent is written.'
pub record Untouched (d : Device) (lent_answers lent_openings : List ℕ) (x : Result) : Type 0 where
  pub device : x.outcome.device ≡ d
  pub no_answers : x.outcome.answers ≡ 0
  pub no_openings : x.outcome.openings ≡ 0
  pub no_clocks : x.outcome.clocks ≡ 0
  pub lent_bytes : x.answers ≡ lent_answers
  pub lent_row : x.openings ≡ lent_openings

module _ (s : List ℕ) (d : Device) (answers openings : List ℕ) where
  abbrev call : Result
  call = play_of s d answers openings

  -- the call gives number r and place p
  abbrev pub Gives : ℕ → ℕ → Type 0
  Gives r p = (call.outcome.refusal ≡ r) × (call.outcome.place ≡ p)

  -- from number r and place p of a result follows R
  abbrev Tells : ℕ → ℕ → Type 0 → Result → Type 0
  Tells r p R x = (x.outcome.refusal ≡ r) × (x.outcome.place ≡ p) → R

  -- 01's tests in their order: what each of them makes of the call
  pub tests : (P : Result → Type 0)
      → (valid_of d ≡ false → P (refusal d answers openings 8 0))
      → ((r p : ℕ) → valid_of d ≡ true → parsed s ≡ refused r p → P (refusal d answers openings r p))
      → ((es : List Event) → valid_of d ≡ true → parsed s ≡ events es → length answers < (needs_of es).answers → P (refusal d answers openings 6 0))
      → ((es : List Event) → valid_of d ≡ true → parsed s ≡ events es → (needs_of es).answers ≤ length answers → length openings < length (made d 0 es).openings
      → P (refusal d answers openings 7 0))
      → ((es : List Event) → valid_of d ≡ true → parsed s ≡ events es → (needs_of es).answers ≤ length answers → length (made d 0 es).openings ≤ length openings
      → P (acceptance d answers openings (made d 0 es)))
      → P call
  unfolding play_of
  tests P invalid as_read bytes row taken =
      branch P (valid_of d) _ _ (λ v. listed v (parsed s) refl) invalid
    where
      listed : valid_of d ≡ true → (q : Parsed) → parsed s ≡ q → P (settle d answers openings q)
      listed v (refused r p) e = as_read r p v e
      listed v (events es) e =
          let n = answers_needed d 0 es in
          branch P (ltb (length answers) (length (made d 0 es).answers)) _ _
          (λ t. let l : length answers < length (made d 0 es).answers = ltb-true _ _ t in bytes es v e (omega arith))
          (λ t.
          let m : length (made d 0 es).answers ≤ length answers = ltb-false _ _ t in
          branch P (ltb (length openings) (length (made d 0 es).openings)) _ _
          (λ u. row es v e (omega arith) (ltb-true _ _ u))
          (λ u. taken es v e (omega arith) (ltb-false _ _ u)))

  -- a number of 1 to 5 is given exactly when the reader gives it, of a device that is not refused
  as_read : (r p : ℕ) → 1 ≤ r → r ≤ 5 → Gives r p ↔ ((valid_of d ≡ true) × (parsed s ≡ refused r p))
  unfolding play_of
  as_read r p low high = (
    tests (Tells r p _)
        (λ v g. absurd (omega (arith, g.0)))
        (λ r' p' v e g. (v, rw (← g.0, ← g.1) e))
        (λ es v e l g. absurd (omega (arith, g.0)))
        (λ es v e m l g. absurd (omega (arith, g.0)))
        (λ es v e m n g. absurd (omega (arith, g.0))),
    (λ h. simp (h.0, h.1) (refl, refl)),
  )

  -- the reader's row in place of what it answers
  by_row : (r p : ℕ) (row : Type 0) → 1 ≤ r → r ≤ 5 → (parsed s ≡ refused r p) ↔ row → Gives r p ↔ ((valid_of d ≡ true) × row)
  by_row r p row low high when =
      let u = as_read r p low high in
      ((λ g. ((u.0 g).0, when.0 (u.0 g).1)), (λ h. u.1 (h.0, when.1 h.1)))

  module _ (p : ℕ) where
    -- 8: 'the device handed in has a prescaler over 31 ..', place 0
    pub refusal_8 : Gives 8 p ↔ ((valid_of d ≡ false) × (p ≡ 0))
    unfolding play_of
    refusal_8 = (
      tests (Tells 8 p _)
          (λ v g. (v, sym g.1))
          (λ r' p' v e g. absurd (omega (arith, reader.one_to_five s r' p' e, g.0)))
          (λ es v e l g. absurd (omega (arith, g.0)))
          (λ es v e m l g. absurd (omega (arith, g.0)))
          (λ es v e m n g. absurd (omega (arith, g.0))),
      (λ h. simp h.0 (refl, sym h.1)),
    )

    -- 1: 'more than 16,384 bytes', place 0
    pub refusal_1 : Gives 1 p ↔ ((valid_of d ≡ true) × ((most_bytes < length s) × (p ≡ 0)))
    refusal_1 = by_row 1 p _ (omega arith) (omega arith) (reader.refused_too_long s p)

    -- 2: 'fewer bits remain than the next event needs', 'that event's first bit'
    pub refusal_2 : Gives 2 p ↔ ((valid_of d ≡ true) × (Reaches s p × CutShort s p))
    refusal_2 = by_row 2 p _ (omega arith) (omega arith) (reader.refused_cut_short s p)

    -- 3: 'pin 28 to 31', 'that event's first bit'
    pub refusal_3 : Gives 3 p ↔ ((valid_of d ≡ true) × (Reaches s p × NoPin s p))
    refusal_3 = by_row 3 p _ (omega arith) (omega arith) (reader.refused_no_pin s p)

    -- 4: 'a fill bit is 1', 'first bit after end'
    pub refusal_4 : Gives 4 p ↔ ((valid_of d ≡ true) × ((at : ℕ) × Reaches s at × FillSet s at × (p ≡ at + kind_bits)))
    refusal_4 = by_row 4 p _ (omega arith) (omega arith) (reader.refused_fill_set s p)

    -- 5: 'a byte follows the last filled one', 'that byte's first bit'
    pub refusal_5 : Gives 5 p ↔ ((valid_of d ≡ true) × ((at : ℕ) × Reaches s at × ByteFollows s at × (p ≡ bytes_to (at + kind_bits) * 8)))
    refusal_5 = by_row 5 p _ (omega arith) (omega arith) (reader.refused_byte_follows s p)

    -- 6: 'answers need more bytes than lent', two for each read and acknowledge, place 0
    pub refusal_6 : Gives 6 p ↔ ((valid_of d ≡ true) × ((es : List Event) × (parsed s ≡ events es) × (length answers < (needs_of es).answers) × (p ≡ 0)))
    unfolding play_of
    refusal_6 = (
      tests (Tells 6 p _)
          (λ v g. absurd (omega (arith, g.0)))
          (λ r' p' v e g. absurd (omega (arith, reader.one_to_five s r' p' e, g.0)))
          (λ es v e l g. (v, (es, e, l, sym g.1)))
          (λ es v e m l g. absurd (omega (arith, g.0)))
          (λ es v e m n g. absurd (omega (arith, g.0))),
      (λ h.
          let w = h.1 in
          let l : length answers < length (made d 0 w.0).answers = rw (answers_needed d 0 w.0) w.2 in
          simp (h.0, w.1, lt-ltb _ _ l) (refl, sym w.3)),
    )

    -- 7: 'openings outnumber the lent row', place 0
    pub refusal_7 : Gives 7 p
        ↔ ((valid_of d ≡ true)
        × ((es : List Event)
        × (parsed s ≡ events es)
        × ((needs_of es).answers ≤ length answers)
        × (length openings < length (made d 0 es).openings)
        × (p ≡ 0)))
    unfolding play_of
    refusal_7 = (
      tests (Tells 7 p _)
          (λ v g. absurd (omega (arith, g.0)))
          (λ r' p' v e g. absurd (omega (arith, reader.one_to_five s r' p' e, g.0)))
          (λ es v e l g. absurd (omega (arith, g.0)))
          (λ es v e m l g. (v, (es, e, m, l, sym g.1)))
          (λ es v e m n g. absurd (omega (arith, g.0))),
      (λ h.
          let w = h.1 in
          let m : length (made d 0 w.0).answers ≤ length answers = rw (answers_needed d 0 w.0) w.2 in
          simp (h.0, w.1, le-ltb _ _ m, lt-ltb _ _ w.3) (refl, sym w.4)),
    )

    -- 0: 'accepted': none of these
    pub refusal_0 : Gives 0 p
        ↔ ((valid_of d ≡ true)
        × ((es : List Event)
        × (parsed s ≡ events es)
        × ((needs_of es).answers ≤ length answers)
        × (length (made d 0 es).openings ≤ length openings)
        × (p ≡ 0)))
    unfolding play_of
    refusal_0 = (
      tests (Tells 0 p _)
          (λ v g. absurd (omega (arith, g.0)))
          (λ r' p' v e g. absurd (omega (arith, reader.one_to_five s r' p' e, g.0)))
          (λ es v e l g. absurd (omega (arith, g.0)))
          (λ es v e m l g. absurd (omega (arith, g.0)))
          (λ es v e m n g. (v, (es, e, m, n, sym g.1))),
      (λ h.
          let w = h.1 in
          let m : length (made d 0 w.0).answers ≤ length answers = rw (answers_needed d 0 w.0) w.2 in
          simp (h.0, w.1, le-ltb _ _ m, le-ltb _ _ w.3) (refl, sym w.4)),
    )

  -- every call has one of these numbers
  pub every_call : call.outcome.refusal ≤ 8
  every_call =
      tests (λ x. x.outcome.refusal ≤ 8)
      (λ v. omega arith)
      (λ r p v e. omega (arith, reader.one_to_five s r p e))
      (λ es v e l. omega arith)
      (λ es v e m l. omega arith)
      (λ es v e m n. omega arith)

  untouched : (r p : ℕ) → Untouched d answers openings (refusal d answers openings r p)
  untouched r p = record { device = refl; no_answers = refl; no_openings = refl; no_clocks = refl; lent_bytes = refl; lent_row = refl }

  -- a refused call leaves all as it was
  pub refused_leaves_all : 1 ≤ call.outcome.refusal → Untouched d answers openings call
  refused_leaves_all =
      tests (λ x. 1 ≤ x.outcome.refusal → Untouched d answers openings x)
      (λ v some. untouched 8 0)
      (λ r p v e some. untouched r p)
      (λ es v e l some. untouched 6 0)
      (λ es v e m l some. untouched 7 0)
      (λ es v e m n some. absurd (omega arith))
