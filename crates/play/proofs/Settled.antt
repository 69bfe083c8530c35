-- From what the check and the count found and what a run left to what the call returns.
use Prim.Native.Nat.{ℕ, ◌≤◌, ◌<◌}
use mathlib.Core.Path.{◌≡◌, refl, sym, ap, ap₂, ◌∙◌}
use mathlib.Core.Bool.{true, false}
use mathlib.Core.List.{List, ◌++◌}
use native.Mathlib.Nat.{zero-add}
use native.Mathlib.Omega.{arith}
use lib.ListN.{length, drop}
use lib.Seq.{sets, sets-eq}
use borrow.Author.Tests.{lt-ltb, le-ltb}
use Rattle.event.specs.declared.Event.{Event}
use Rattle.wire.specs.List.{Parsed, events, refused, parsed}
use Rattle.wire.specs.Needs.{needs_of}
use Rattle.wire.specs.Next.{most_bytes}
use Rattle.wire.specs.Totals.{totals}
use Rattle.device.specs.Events.{made}
use Rattle.device.specs.Validity.{valid_of}
use Rattle.device.specs.declared.Device.{Device}
use Rattle.play.specs.Play.{result, accepted_outcome, refusal, acceptance, settled, settle, play_of}
use Rattle.play.specs.Run.{stored}
use Rattle.survey.specs.Check.{Whole, Refused, checked_of}
use Rattle.survey.specs.Needed.{answers_needed, openings_few}
use Rattle.survey.specs.Survey.{opened_by}
use Rattle.survey.specs.declared.checking.Sums.{Sums}

-- a list that the check takes, with what it asks for
pub record Taken (s : List ℕ) (n : Sums) : Type 0 where
  pub es : List Event
  pub is : parsed s ≡ events es
  pub answers : n.answers ≡ (needs_of es).answers
  pub clocks : n.clocks ≡ (needs_of es).clocks

module _ (s : List ℕ) (n : Sums) where
  take : (P : Parsed) → parsed s ≡ P → Whole n ≡ checked_of P → Taken s n
  take (events es) e h =
      let x : n ≡ record { answers = (needs_of es).answers; clocks = (needs_of es).clocks } = cc in
      record { es = es; is = e; answers = ap (λ (y : Sums). y.answers) x; clocks = ap (λ (y : Sums). y.clocks) x }
  take (refused r p) e h = absurd (let z : ◌≡◌ {A = ℕ} 0 1 = cc in omega arith)

  pub taken : Whole n ≡ checked_of (parsed s) → Taken s n
  taken h = take (parsed s) refl h

  -- it is not too long
  pub short : Taken s n → length s ≤ most_bytes
  short t = (totals s t.es t.is).short

module _ (s : List ℕ) (d : Device) (A O : List ℕ) where
  pub invalid : valid_of d ≡ false → refusal d A O 8 0 ≡ play_of s d A O
  unfolding play_of
  invalid h = rw h

  valid : valid_of d ≡ true → settle d A O (parsed s) ≡ play_of s d A O
  unfolding play_of
  valid h = rw h

  stop : (P : Parsed) (q p : ℕ) → Refused q p ≡ checked_of P → refusal d A O q p ≡ settle d A O P
  stop (refused q' p') q p h = let e : q ≡ q' = cc in let f : p ≡ p' = cc in ap₂ (refusal d A O) e f
  stop (events es) q p h = absurd (let z : ◌≡◌ {A = ℕ} 0 1 = cc in omega arith)

  -- the check refuses the list
  pub stops : valid_of d ≡ true → (q p : ℕ) → Refused q p ≡ checked_of (parsed s) → refusal d A O q p ≡ play_of s d A O
  stops v q p h = stop (parsed s) q p h ∙ valid v

  module _ (v : valid_of d ≡ true) (n : Sums) (t : Taken s n) where
    whole : settled d A O (made d 0 t.es) ≡ play_of s d A O
    whole = ap (settle d A O) (sym t.is) ∙ valid v

    answers_are : length (made d 0 t.es).answers ≡ n.answers
    answers_are = answers_needed d 0 t.es ∙ sym t.answers

    -- answers need more bytes than lent
    pub few_bytes : length A < n.answers → refusal d A O 6 0 ≡ play_of s d A O
    few_bytes l =
        let z : settled d A O (made d 0 t.es) ≡ refusal d A O 6 0 = simp (lt-ltb (length A) (length (made d 0 t.es).answers) (omega (arith, answers_are))) in
        sym z ∙ whole

    -- openings outnumber the lent row
    pub few_entries : n.answers ≤ length A → length O < opened_by d (parsed s) → refusal d A O 7 0 ≡ play_of s d A O
    few_entries a l =
        let many : opened_by d (parsed s) ≡ length (made d 0 t.es).openings = ap (opened_by d) t.is in
        let z : settled d A O (made d 0 t.es) ≡ refusal d A O 7 0 =
        simp (
          le-ltb (length A) (length (made d 0 t.es).answers) (omega (arith, answers_are)),
          lt-ltb (length O) (length (made d 0 t.es).openings) (omega (arith, many, l)),
        ) in
        sym z ∙ whole

    over : (xs l : List ℕ) → length xs ≤ length l → sets l 0 xs ≡ xs ++ drop (length xs) l
    over xs l g = sets-eq xs l 0 (rw zero-add g) ∙ ap (λ (k : ℕ). xs ++ drop k l) (zero-add (length xs))

    -- all fits, and what the events make is stored
    fits : n.answers ≤ length A → length (made d 0 t.es).openings ≤ length O → stored (made d 0 t.es) A O ≡ play_of s d A O
    fits a ho =
        let m = made d 0 t.es in
        let ha : length m.answers ≤ length A = omega (arith, answers_are) in
        let y : settled d A O m ≡ acceptance d A O m = simp (le-ltb (length A) (length m.answers) ha, le-ltb (length O) (length m.openings) ho) in
        (λ i. result (accepted_outcome m) (over m.answers A ha i) (over m.openings O ho i)) ∙ sym y ∙ whole

    -- where the openings were counted,
    pub counted : n.answers ≤ length A → opened_by d (parsed s) ≤ length O → stored (made d 0 t.es) A O ≡ play_of s d A O
    counted a l = fits a (omega (arith, ap (opened_by d) t.is, l))

    -- and where there are entries for all clocks
    pub bounded : n.answers ≤ length A → n.clocks ≤ length O → stored (made d 0 t.es) A O ≡ play_of s d A O
    bounded a l = fits a (omega (arith, openings_few d 0 t.es, t.clocks, l))
