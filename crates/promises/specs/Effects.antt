-- What an accepted list does: the effects of its events in turn, and nothing else.
use Rattle.std.specs.Prelude.{ℕ, ◌≤◌, true, List, ◌≡◌, refl, length, take, drop}
use Rattle.std.proofs.Common.{sym, ◌∙◌, arith}
use borrow.Author.Tests.{le-ltb}
use Rattle.std.proofs.Math.Seq.{take-append_seam, drop-append_seam}
use Rattle.event.specs.declared.Event.{Event}
use Rattle.wire.specs.List.{events, parsed}
use Rattle.wire.specs.Refusals.{one_to_five}
use Rattle.device.specs.Events.{made}
use Rattle.device.specs.Validity.{valid_of}
use Rattle.device.specs.declared.Device.{Device}
use Rattle.play.specs.Play.{Result, acceptance, play_of}
use Rattle.survey.specs.Needed.{answers_needed}
use Rattle.promises.specs.Refusals.{tests}

-- the list is read as the events es, there is room for what they make, and x is what they make of the device and of what is lent
pub record Folds (s : List ℕ) (d : Device) (bytes row : List ℕ) (x : Result) : Type 0 where
  pub es : List Event
  pub valid : valid_of d ≡ true
  pub read : parsed s ≡ events es
  pub answers : length (made d 0 es).answers ≤ length bytes
  pub openings : length (made d 0 es).openings ≤ length row
  pub result : x ≡ acceptance d bytes row (made d 0 es)

-- the numbers that a call stored in the row
abbrev pub stored : Result → List ℕ
stored x = take x.outcome.openings x.openings

-- past what x used, its bytes and its row are those that were lent
pub record RestsKept (lent_answers lent_openings : List ℕ) (x : Result) : Type 0 where
  pub bytes : drop x.outcome.answers x.answers ≡ drop x.outcome.answers lent_answers
  pub row : drop x.outcome.openings x.openings ≡ drop x.outcome.openings lent_openings

module _ (s : List ℕ) (d : Device) (answers openings : List ℕ) where
  abbrev call : Result
  call = play_of s d answers openings

  -- An accepted list's answers, openings, final device and totals are those of its events in turn.
  pub accepted_is_the_fold : call.outcome.refusal ≡ 0 → Folds s d answers openings call
  accepted_is_the_fold =
      tests s d answers openings (λ x. x.outcome.refusal ≡ 0 → Folds s d answers openings x)
      (λ v g. absurd (omega arith))
      (λ r p v e g. absurd (omega (arith, one_to_five s r p e)))
      (λ es v e l g. absurd (omega arith))
      (λ es v e m l g. absurd (omega arith))
      (λ es v e m n g.
      record { es = es; valid = v; read = e; answers = omega (arith, answers_needed d 0 es); openings = n; result = refl })

  -- Entries and answer bytes past those used keep what they held.
  pub rests_kept : RestsKept answers openings call
  rests_kept =
      tests s d answers openings (RestsKept answers openings)
      (λ v. record { bytes = refl; row = refl })
      (λ r p v e. record { bytes = refl; row = refl })
      (λ es v e l. record { bytes = refl; row = refl })
      (λ es v e m l. record { bytes = refl; row = refl })
      (λ es v e m n. record { bytes = drop-append_seam (made d 0 es).answers _; row = drop-append_seam (made d 0 es).openings _ })

  -- where there is room for what a list's events make, they are played
  taken : (es : List Event) → valid_of d ≡ true → parsed s ≡ events es → length (made d 0 es).answers ≤ length answers → length (made d 0 es).openings ≤ length openings
      → call ≡ acceptance d answers openings (made d 0 es)
  unfolding play_of
  taken es v e m n = simp (v, e, le-ltb _ _ m, le-ltb _ _ n)

-- two calls hand back the same outcome, and store the same answer bytes and the same numbers
pub record Same (x y : Result) : Type 0 where
  pub outcome : x.outcome ≡ y.outcome
  pub answers : take x.outcome.answers x.answers ≡ take y.outcome.answers y.answers
  pub openings : stored x ≡ stored y

-- Nothing depends on what the lent bytes and row held, nor on how much more than is needed was lent.
pub room_is_all_that_counts : (s : List ℕ) (d : Device) (answers openings bytes row : List ℕ) → (play_of s d answers openings).outcome.refusal ≡ 0
    → (play_of s d answers openings).outcome.answers ≤ length bytes → (play_of s d answers openings).outcome.openings ≤ length row
    → Same (play_of s d bytes row) (play_of s d answers openings)
room_is_all_that_counts s d answers openings bytes row accepted m n =
    let f = accepted_is_the_fold s d answers openings accepted in
    let made_answers = (made d 0 f.es).answers in
    let made_openings = (made d 0 f.es).openings in
    rw (f.result, taken s d bytes row f.es f.valid f.read (rw f.result at m) (rw f.result at n))
    (record {
      outcome = refl;
      answers = take-append_seam made_answers _ ∙ sym (take-append_seam made_answers _);
      openings = take-append_seam made_openings _ ∙ sym (take-append_seam made_openings _);
    })
