-- The contract of `play` leaves one outcome and one content of everything lent.
use Rattle.std.specs.Prelude.{◌≡◌, Result as Either, Ok, Err}
use Rattle.std.proofs.Common.{refl, sym, ap, ◌∙◌, arith}
use Rattle.device.specs.declared.Device.{Device}
use Rattle.wire.specs.Told.{number_of, refused_by_one}
use Rattle.wire.specs.declared.refusal.Refusal.{Refusal}
use Rattle.wire.specs.declared.refusal.Refusal.TheVariants.{TooLong, CutShort, NoPin, FillSet, ByteFollows, AnswersRoom, OpeningsRoom, InvalidDevice}
use Rattle.wire.specs.declared.refusal.Refused.{Refused}
use Rattle.play.specs.Play.{Outcome, Result, outcome_with, outcome_of}
use Rattle.play.specs.declared.playing.Totals.{Totals}
use Rattle.play.specs.declared.playing.Played.{Played}
use Rattle.play.proofs.playing.play.Reads.{Post}

-- a refusal is never told as 0, so totals and refusals are told apart
above_zero : (x : Refusal) → number_of x ≡ 0 → ⊥
above_zero TooLong = λ e. omega (arith, e)
above_zero CutShort = λ e. omega (arith, e)
above_zero NoPin = λ e. omega (arith, e)
above_zero FillSet = λ e. omega (arith, e)
above_zero ByteFollows = λ e. omega (arith, e)
above_zero AnswersRoom = λ e. omega (arith, e)
above_zero OpeningsRoom = λ e. omega (arith, e)
above_zero InvalidDevice = λ e. omega (arith, e)

totals_by_one : (c d : Device) (t u : Either Totals Refused) → outcome_with c t ≡ outcome_with d u → t ≡ u
totals_by_one c d (Ok t) (Ok u) same =
    λ i. Ok (record { answers = (same i).answers; openings = (same i).openings; clocks = (same i).clocks })
totals_by_one c d (Ok t) (Err r) same = absurd (above_zero r.refusal (sym (ap (λ (o : Outcome). o.refusal) same)))
totals_by_one c d (Err r) (Ok u) same = absurd (above_zero r.refusal (ap (λ (o : Outcome). o.refusal) same))
totals_by_one c d (Err r) (Err q) same =
    ap Err (refused_by_one r q (ap (λ (o : Outcome). o.refusal) same) (ap (λ (o : Outcome). o.place) same))

device_is : (d : Device) (t : Either Totals Refused) → (outcome_with d t).device ≡ d
device_is d (Ok t) = refl
device_is d (Err r) = refl

-- one result alone is told as an outcome
outcome_by_one : (p q : Played) → outcome_of p ≡ outcome_of q → p ≡ q
outcome_by_one p q same =
    let device : p.device ≡ q.device = sym (device_is p.device p.totals) ∙ ap (λ (o : Outcome). o.device) same ∙ device_is q.device q.totals in
    let totals = totals_by_one p.device q.device p.totals q.totals same in
    λ i. record { device = device i; totals = totals i }

pub play : (κs : _) (a : _) (r₁ r₂ : _) (x₁ x₂ : _) → Post κs a r₁ x₁ → Post κs a r₂ x₂
    → (r₁ ≡ r₂) × (x₁.1.1.0.now ≡ x₂.1.1.0.now) × (x₁.1.1.1.0.now ≡ x₂.1.1.1.0.now)
play κs a r₁ r₂ x₁ x₂ p q =
    let e = p ∙ sym q in
    (outcome_by_one r₁ r₂ (ap (λ (x : Result). x.outcome) e), ap (λ (x : Result). x.answers) e, ap (λ (x : Result). x.openings) e)
