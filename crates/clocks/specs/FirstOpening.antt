-- When a timer whose openings are regular opens first (01, 'Timer').
use Prim.Native.Nat.{ℕ, zero, suc, ◌+◌, ◌-◌, ◌≤◌, ◌<◌}
use Rattle.std.specs.Prelude.{Bool, false, not, ◌&&◌, ◌||◌, [], ◌∷◌, ◌≡◌, refl, eqb, if◌then◌else◌}
use Rattle.std.proofs.Math.Bool.{true}
use Rattle.std.proofs.lemmas.Bool.{false≢true, eqb-false, not-true}
use Rattle.std.proofs.Common.{ap, ◌∙◌, arith, eqb-true}
use Rattle.std.proofs.Math.Dec.{eqb-suc-zero}
use Rattle.bits.specs.Choice.{branch}
use Rattle.timer.specs.Control.{rolls_of, clock_steps}
use Rattle.timer.specs.Counting.{full, greatest, at_zero_of, count_of}
use Rattle.timer.specs.declared.Timer.{Timer}
use Rattle.timer.specs.declared.Count.{Count}
use Rattle.clocks.specs.Steps.{at, counts_in, steps_to, either_side}
use Rattle.clocks.specs.Spans.{Span, quiet_span, count_span}
use Rattle.clocks.specs.Counts.{lowers_of, loaded_of, lowered_of, counting, QuietAt, due_zero, above_zero, loaded_is, quiet_above, quiet_loads}
use Rattle.clocks.specs.Jumps.{over_of, still_clocked}
use Rattle.clocks.specs.Regular.{regular_of, counts_between, counts_before, clocks_to, since_of}

-- after q counts that open nothing the counter is at 1, so that the next count opens
abbrev Opening : Timer → ℕ → Type 0
Opening t q = ((i : ℕ) → i < q → QuietAt t q i) × (lowered_of t q q ≡ counting t 1)

last_lowered : (t : Timer) (q : ℕ) → (q ≡ 0 → t ≡ counting t 1) → lowered_of t q q ≡ counting t 1
unfolding lowered_of
last_lowered t zero e = e refl
last_lowered t (suc q) e = let m : suc q + 1 - suc q ≡ 1 = omega arith in simp (eqb-suc-zero, m)

opens_lowered : (t : Timer) → 0 < lowers_of t → Opening t (lowers_of t - 1)
opens_lowered t l =
    (quiet_above t l, last_lowered t (lowers_of t - 1) (λ z. let e : lowers_of t ≡ 1 = omega arith in above_zero t l ∙ ap (counting t) e))

opens_loaded : (t : Timer) → lowers_of t ≡ 0 → 0 < loaded_of t → Opening t (loaded_of t)
opens_loaded t z l = (quiet_loads t z, last_lowered t (loaded_of t) (λ e. absurd (omega arith)))

-- a due load is one of more than zero
some_due : (t : Timer) → regular_of t ≡ true → t.phase.due ≡ true → 0 < t.preload.0
unfolding regular_of
some_due t g d = go (eqb t.preload.0 0) refl (rw d at g)
  where
    go : (b : Bool) → eqb t.preload.0 0 ≡ b → (if true && b then false else rolls_of t.tcr || not b) ≡ true → 0 < t.preload.0
    go true e f = absurd (false≢true f)
    go false e f = omega (arith, eqb-false t.preload.0 0 e)

pub unless_due : (due none rolls : Bool) → (if due && none then false else rolls || not none) ≡ true → (rolls || not none) ≡ true
unless_due true true rolls f = absurd (false≢true f)
unless_due true false rolls f = f
unless_due false none rolls f = f

-- a count at zero leads on to more than zero
pub over_zero : (t : Timer) → regular_of t ≡ true → 1 < counts_between t
unfolding regular_of counts_between
over_zero t g = go (rolls_of t.tcr) (unless_due t.phase.due (eqb t.preload.0 0) (rolls_of t.tcr) g)
  where
    go : (b : Bool) → (b || not (eqb t.preload.0 0)) ≡ true → 1 < (if b then greatest + 1 else t.preload.0 + 1)
    go true f = omega arith
    go false f = omega (arith, eqb-false t.preload.0 0 (not-true (eqb t.preload.0 0) f))

at_zero : (t : Timer) → (at_zero_of t).0 ≡ counts_between t - 1
unfolding at_zero_of counts_between
at_zero t = go (rolls_of t.tcr)
  where
    go : (b : Bool) → (if◌then◌else◌ {A = Count} b (record { 0 = greatest }) t.preload).0 ≡ (if b then greatest + 1 else t.preload.0 + 1) - 1
    go true = refl
    go false = omega arith

-- so many come first
opening_is : (t : Timer) → regular_of t ≡ true → Opening t (counts_before t)
unfolding counts_before counts_between lowers_of at_zero_of
opening_is t g =
    branch (Opening t) t.phase.due _ _
    (λ d.
    let e : loaded_of t ≡ t.preload.0 = loaded_is t (due_zero t d) ∙ rw d in
    rw e at (opens_loaded t (due_zero t d) (rw e (some_due t g d))))
    (λ d.
    branch (Opening t) (eqb t.count.0 0) _ _
    (λ z.
    let none : lowers_of t ≡ 0 = rw d (eqb-true t.count.0 0 z) in
    let e : loaded_of t ≡ counts_between t - 1 = loaded_is t none ∙ rw d (at_zero t) in
    rw e at (opens_loaded t none (omega (arith, e, over_zero t g))))
    (λ z.
    let e : lowers_of t ≡ t.count.0 = rw d in
    rw e at (opens_lowered t (omega (arith, e, eqb-false t.count.0 0 z)))))

-- fewer clocks than lead to a count make at most those before it
short_of : (p q n : ℕ) → n < steps_to p q → counts_in p n ≤ q
unfolding steps_to
short_of p q n l = either_side (λ c s. c ≤ q) p n (λ a. omega arith) (λ a. omega arith)

module _ (tin : Bool) (t : Timer) (h : clock_steps t.tcr tin ≡ true) (g : regular_of t ≡ true) where
  -- before the first opening
  pub before : (n : ℕ) → n < clocks_to t → Span tin n t (over_of t (counts_before t) n).timer (λ k. [])
  unfolding over_of lowered_of clocks_to
  before n l =
      let q : ℕ = counts_before t in
      let few = short_of t.phase.prescaler.0 q n l in
      quiet_span tin (lowered_of t q) (still_clocked tin t h q) n t.phase.prescaler.0 (λ i m. (opening_is t g).0 i (omega arith))

  -- up to it
  pub first : Span tin (clocks_to t) t (since_of t 0 (not t.phase.square)) (λ k. (k + clocks_to t) ∷ [])
  unfolding lowered_of clocks_to since_of count_of
  first =
      let q : ℕ = counts_before t in
      let o = opening_is t g in
      count_span tin (lowered_of t q) (still_clocked tin t h q) q t.phase.prescaler.0 o.0
      (record { part = since_of t 0 (not t.phase.square); opened = true }) (ap (λ (u : Timer). count_of (at full u)) o.1)
