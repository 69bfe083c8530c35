-- What is worked out ahead of regular openings is what single clocks do (01, 'Timer': a long clocks event may be worked out by
-- arithmetic; it must equal single clocks).
use Prim.Native.Nat.{ℕ, zero, suc, ◌+◌, ◌-◌, ◌*◌, ◌/◌, ◌%◌, ◌<◌}
use Rattle.std.specs.Prelude.{Bool, not, [], ◌∷◌, ◌≡◌, eqb, length, if◌then◌else◌}
use Rattle.std.proofs.Math.Bool.{true, false}
use Rattle.std.specs.Bool.{beq}
use Rattle.std.proofs.Math.Path.{refl}
use Rattle.std.proofs.Common.{ap, ◌∙◌, suc-mul, add_assoc, add-zero, add_comm, zero-mul, mod-lt, div-add-mod', add-one, arith}
use Rattle.std.proofs.Math.Nat.{zero-add}
use borrow.Author.Tests.{eq-eqb, ne_eqb, eqb-true, eqb-false, ltb-true, ltb-false}
use Rattle.std.proofs.Math.Dec.{ltb}
use Rattle.timer.specs.Control.{rolls_of, clock_steps}
use Rattle.timer.specs.Counting.{full}
use Rattle.timer.specs.Parts.{with_zds, with_square}
use Rattle.timer.specs.Running.{openings}
use Rattle.timer.specs.declared.Timer.{Timer}
use Rattle.clocks.specs.Steps.{at, turn, steps_to, Made, either_side}
use Rattle.clocks.specs.Spans.{Span, joined}
use Rattle.clocks.specs.Counts.{lowered_of, counting}
use Rattle.clocks.specs.Jumps.{over_of}
use Rattle.clocks.specs.FirstOpening.{unless_due, over_zero, before, first}
use Rattle.clocks.specs.Regular.{
  regular_of,
  counts_between,
  counts_before,
  clocks_to,
  period_of,
  opened_in,
  spaced,
  moments_of,
  square_after,
  since_of,
  gone_on,
}

-- as many as are asked for
pub spaced_many : (p k q : ℕ) → length (spaced p k q) ≡ q
spaced_many p k zero = refl
spaced_many p k (suc q) = ap suc (spaced_many p (k + p) q)

-- an opening leaves a timer whose openings are regular, and the next a period later
after_opening : (t : Timer) (s : Bool) → regular_of t ≡ true → (regular_of (since_of t 0 s) ≡ true) × (clocks_to (since_of t 0 s) ≡ period_of t)
unfolding regular_of since_of clocks_to steps_to counts_before counts_between period_of
after_opening t s g =
    (unless_due t.phase.due (eqb t.preload.0 0) (rolls_of t.tcr) g, omega (arith, over_zero t g))

-- what clocks make of a full prescaler
from_full : (r : ℕ) → Made full r (r / turn) (full - r % turn)
from_full r =
    either_side (λ c s. (c ≡ r / turn) × (s ≡ full - r % turn)) full r (λ a. (omega arith, omega arith)) (λ a. (omega arith, omega arith))

-- fewer clocks than a period lower the counter
over_rest : (t : Timer) (s : Bool) (r : ℕ) → regular_of t ≡ true → (over_of (since_of t 0 s) (counts_before (since_of t 0 s)) r).timer ≡ since_of t r s
unfolding over_of lowered_of since_of counts_before counts_between
over_rest t s r g =
    let m = from_full r in
    let e : counts_between t - 1 + 1 - r / turn ≡ counts_between t - r / turn = omega (arith, over_zero t g) in
    rw (m.0, m.1) (go (eqb (r / turn) 0) e)
  where
    go : (b : Bool) → counts_between t - 1 + 1 - r / turn ≡ counts_between t - r / turn
        → at (full - r % turn) (if b then since_of t 0 s else counting (since_of t 0 s) (counts_between t - 1 + 1 - r / turn))
        ≡ with_square (with_zds (counting (at (full - r % turn) t) (if b then 0 else counts_between t - r / turn)) true) s
    go true e = refl
    go false e = ap (λ (n : ℕ). with_square (with_zds (counting (at (full - r % turn) t) n) true) s) e

-- every other number is odd
odd_next : (n : ℕ) → eqb (suc n % 2) 1 ≡ not (eqb (n % 2) 1)
odd_next n = go (eqb (n % 2) 1) refl
  where
    go : (b : Bool) → eqb (n % 2) 1 ≡ b → eqb (suc n % 2) 1 ≡ not b
    go true e = ne_eqb (suc n % 2) 1 (λ f. omega (arith, eqb-true (n % 2) 1 e))
    go false e = eq-eqb (suc n % 2) 1 (omega (arith, eqb-false (n % 2) 1 e))

beq_not : (a b : Bool) → beq a (not b) ≡ not (beq a b)
beq_not true true = refl
beq_not true false = refl
beq_not false true = refl
beq_not false false = refl

-- an opening turns the square wave over
turns_over : (t : Timer) (q : ℕ) → square_after t (suc q) ≡ not (square_after t q)
unfolding square_after
turns_over t q = rw (odd_next q) (beq_not t.phase.square (eqb (q % 2) 1))

first_over : (t : Timer) → square_after t 0 ≡ not t.phase.square
unfolding square_after
first_over t = go t.phase.square
  where
    go : (b : Bool) → beq b false ≡ not b
    go true = refl
    go false = refl

module _ (tin : Bool) (t : Timer) (h : clock_steps t.tcr tin ≡ true) (g : regular_of t ≡ true) where
  still_steps : (s : Bool) → clock_steps (since_of t 0 s).tcr tin ≡ true
  unfolding since_of
  still_steps s = h

  -- a turn, from opening to opening
  again : (s : Bool) → Span tin (period_of t) (since_of t 0 s) (since_of t 0 (not s)) (λ k. (k + period_of t) ∷ [])
  unfolding since_of
  again s = let o = after_opening t s g in rw o.1 at (first tin (since_of t 0 s) (still_steps s) o.0)

  rest : (s : Bool) (r : ℕ) → r < period_of t → Span tin r (since_of t 0 s) (since_of t r s) (λ k. [])
  rest s r l =
      let o = after_opening t s g in
      rw (over_rest t s r g) at (before tin (since_of t 0 s) (still_steps s) o.0 r (rw o.1 l))

  -- so many turns, and a rest
  turned : (q j r : ℕ) → r < period_of t
      → Span tin (q * period_of t + r) (since_of t 0 (square_after t j)) (since_of t r (square_after t (j + q))) (λ k. spaced (period_of t) (k + period_of t) q)
  turned zero j r l = rw (zero-mul, zero-add, add-zero) (rest (square_after t j) r l)
  turned (suc q) j r l =
      let p : ℕ = period_of t in
      let e : suc q * p + r ≡ p + (q * p + r) = ap (λ (n : ℕ). n + r) (suc-mul q p ∙ add_comm (q * p) p) ∙ add_assoc p (q * p) r in
      let m : j + suc q ≡ suc j + q = omega arith in
      rw (e, m) (joined (rw (← turns_over t j) at (again (square_after t j))) (turned q (suc j) r l))

  -- what is worked out ahead is what single clocks do
  pub regular_clocks : (n : ℕ) → Span tin n t (gone_on t n) (moments_of t n)
  unfolding gone_on opened_in period_of
  regular_clocks n = go (ltb n (clocks_to t)) refl
    where
      go : (b : Bool) → ltb n (clocks_to t) ≡ b
          → Span tin n t
          (if b then (over_of t (counts_before t) n).timer else since_of t ((n - clocks_to t) % period_of t) (square_after t ((n - clocks_to t) / period_of t)))
          (λ k. spaced (period_of t) (k + clocks_to t) (if b then 0 else (n - clocks_to t) / period_of t + 1))
      go true l = before tin t h g n (ltb-true n (clocks_to t) l)
      go false l =
          let p : ℕ = period_of t in
          let m : ℕ = n - clocks_to t in
          let e : clocks_to t + (m / p * p + m % p) ≡ n = rw (div-add-mod' m p) (omega (arith, ltb-false n (clocks_to t) l)) in
          let some : 0 < p = omega (arith, over_zero t g) in
          rw (add-one (m / p))
          (rw (e, zero-add (m / p)) at (joined (rw (← first_over t) at (first tin t h g)) (turned (m / p) 0 (m % p) (mod-lt m some))))

  -- of which so many open
  pub regular_many : (n k : ℕ) → length (openings tin n k t) ≡ opened_in t n
  regular_many n k = rw ((regular_clocks n).opens k) (spaced_many (period_of t) (k + clocks_to t) (opened_in t n))
