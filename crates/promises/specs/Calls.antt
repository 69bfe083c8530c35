-- The openings of a whole call: which numbers stand in the lent row (01, 'The event list', 'Timer').
use Rattle.std.specs.Prelude.{ℕ, ◌<◌, true, List, [], ◌≡◌, ltb, get_or, length, drop}
use Rattle.std.proofs.Math.Path.{refl}
use Rattle.std.proofs.Common.{sym, ap, ◌∙◌, arith}
use Rattle.std.proofs.Math.ListN.{get_or-append}
use Rattle.std.proofs.Math.Seq.{take-append_seam}
use Rattle.bits.specs.Choice.{both_arms}
use Rattle.event.specs.declared.Event.{Event}
use Rattle.clocks.specs.NeverOpens.{Barren}
use Rattle.clocks.specs.Numbers.{Rising, apart}
use Rattle.wire.specs.List.{Parsed, events, refused, parsed}
use Rattle.wire.specs.Refusals.{one_to_five}
use Rattle.wire.specs.Needs.{needs_of}
use Rattle.device.specs.Events.{made}
use Rattle.device.specs.Validity.{valid_of}
use Rattle.device.specs.declared.Device.{Device}
use Rattle.laws.specs.Touching.{Agree}
use Rattle.play.specs.Play.{Result, refusal, settle, play_of}
use Rattle.survey.specs.Needed.{answers_needed}
use Rattle.promises.specs.Refusals.{tests}
use Rattle.promises.specs.Effects.{stored, accepted_is_the_fold, rests_kept}
use Rattle.promises.specs.Moments.{singly, moments}
use Rattle.promises.specs.Openings.{openings_are_moments, rise_strictly}
use Rattle.promises.specs.NeverOpens.{AllFruitless, nothing_opens}
use Rattle.promises.specs.GateAlone.{gate_alone}

-- x stores the moments of the events that the bytes are read as, and nothing else
pub record StoresMoments (s : List ℕ) (d : Device) (lent : List ℕ) (x : Result) : Type 0 where
  pub es : List Event
  pub read : parsed s ≡ events es
  -- each moment of the events, followed one clock and one edge at a time, stands in the row once, and no other number
  pub numbers : stored x ≡ moments d 0 (singly es)
  -- the total is how many they are
  pub total : x.outcome.openings ≡ length (moments d 0 (singly es))
  -- they rise strictly (02, R-2), and none is past the clocks that have passed
  pub rising : Rising 0 x.outcome.clocks (stored x)
  -- entries past them keep what they held
  pub rest : drop x.outcome.openings x.openings ≡ drop x.outcome.openings lent

-- x stores no number and leaves the row exactly as it was lent, and the row, of whatever length, is not refused
pub record StoresNothing (lent : List ℕ) (x : Result) : Type 0 where
  pub total : x.outcome.openings ≡ 0
  pub row : x.openings ≡ lent
  pub room : x.outcome.refusal ≡ 7 → ⊥

module _ (s : List ℕ) (d : Device) (answers openings : List ℕ) where
  abbrev call : Result
  call = play_of s d answers openings

  -- An accepted list stores in the row the moments of its events: all of them, in order, and none else.
  pub accepted_stores_moments : call.outcome.refusal ≡ 0 → StoresMoments s d openings call
  accepted_stores_moments accepted =
      let f = accepted_is_the_fold s d answers openings accepted in
      let m = made d 0 f.es in
      let are = openings_are_moments f.es d 0 in
      let same : stored call ≡ m.openings = rw f.result (take-append_seam m.openings _) in
      record {
        es = f.es;
        read = f.read;
        numbers = same ∙ are;
        total = rw f.result (ap length are);
        rising = rw (same, f.result) (rise_strictly f.es d 0);
        rest = (rests_kept s d answers openings).row;
      }

  -- So of any two of its numbers the later is the greater, and none stands twice.
  pub no_number_twice : call.outcome.refusal ≡ 0 → (i j : ℕ) → i < j → j < call.outcome.openings → get_or call.openings i 0 < get_or call.openings j 0
  no_number_twice accepted i j before within =
      let f = accepted_is_the_fold s d answers openings accepted in
      let l = (made d 0 f.es).openings in
      let some : j < length l = rw f.result at within in
      rw (f.result, get_or-append l _ 0 i (omega arith), get_or-append l _ 0 j some)
      (apart 0 (made d 0 f.es).clocks l i j (rise_strictly f.es d 0) before some)

  -- With reload and preload 0 throughout nothing is stored, whether the call is accepted or refused.
  pub barren_stores_nothing : (es : List Event) → parsed s ≡ events es → Barren d.gate.timer → AllFruitless es → StoresNothing openings call
  barren_stores_nothing es read barren fruitless =
      tests s d answers openings (StoresNothing openings)
      (λ v. record { total = refl; row = refl; room = λ seven. omega arith })
      (λ r p v e. record { total = refl; row = refl; room = λ seven. omega (arith, one_to_five s r p e) })
      (λ es' v e l. record { total = refl; row = refl; room = λ seven. omega arith })
      (λ es' v e m l. absurd (omega (arith, ap length (none es' e))))
      (λ es' v e m n. rw (none es' e) (record { total = refl; row = refl; room = λ seven. omega arith }))
    where
      none : (es' : List Event) → parsed s ≡ events es' → (made d 0 es').openings ≡ []
      none es' e = let same : es' ≡ es = cc in rw same (nothing_opens es d 0 barren fruitless)

-- x and y are accepted or refused alike, and leave the same in the row
pub record SameRow (x y : Result) : Type 0 where
  pub refusal : x.outcome.refusal ≡ y.outcome.refusal
  pub place : x.outcome.place ≡ y.outcome.place
  pub total : x.outcome.openings ≡ y.outcome.openings
  pub row : x.openings ≡ y.openings

-- two devices that agree in the timer and in TIN's level, and the same list
module _ (s : List ℕ) (c d : Device) (same : Agree d.gate c.gate) where
  -- Where both calls are accepted they store the same numbers, whatever was lent, and whatever the ports, the other pins and the other
  -- registers hold.
  pub gate_alone_stores : (answers openings bytes row : List ℕ)
      → (play_of s c answers openings).outcome.refusal ≡ 0 → (play_of s d bytes row).outcome.refusal ≡ 0
      → stored (play_of s c answers openings) ≡ stored (play_of s d bytes row)
  gate_alone_stores answers openings bytes row accepted taken =
      let f = accepted_is_the_fold s c answers openings accepted in
      let g = accepted_is_the_fold s d bytes row taken in
      let es : f.es ≡ g.es = events_same f.es g.es f.read g.read in
      rw (f.result, g.result, es)
      (take-append_seam (made c 0 g.es).openings _ ∙ gate_alone g.es c d 0 same ∙ sym (take-append_seam (made d 0 g.es).openings _))
    where
      events_same : (xs ys : List Event) → parsed s ≡ events xs → parsed s ≡ events ys → xs ≡ ys
      events_same xs ys p q = cc

  -- Where both are valid and the same is lent, one call is accepted exactly when the other is, else refused alike, refusal 7 too.
  pub gate_alone_judges : (answers openings : List ℕ) → valid_of c ≡ true → valid_of d ≡ true → SameRow (play_of s c answers openings) (play_of s d answers openings)
  unfolding play_of
  gate_alone_judges answers openings valid valid' = rw (valid, valid') (settled_alike (parsed s))
    where
      refused_alike : (r p : ℕ) → SameRow (refusal c answers openings r p) (refusal d answers openings r p)
      refused_alike r p = record { refusal = refl; place = refl; total = refl; row = refl }

      settled_alike : (q : Parsed) → SameRow (settle c answers openings q) (settle d answers openings q)
      settled_alike (refused r p) = refused_alike r p
      settled_alike (events es) =
          rw (answers_needed c 0 es, answers_needed d 0 es, gate_alone es c d 0 same)
          (both_arms SameRow (ltb (length answers) (needs_of es).answers) _ _ _ _ (refused_alike 6 0)
          (both_arms SameRow (ltb (length openings) (length (made d 0 es).openings)) _ _ _ _ (refused_alike 7 0)
          (record { refusal = refl; place = refl; total = refl; row = refl })))
