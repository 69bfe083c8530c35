-- Clocks that open nothing, and change the counter and the prescaler alone (01, 'Timer').
use Prim.Native.Nat.{ℕ, zero, suc, ◌+◌, ◌-◌, ◌*◌, ◌<◌}
use Rattle.std.specs.Prelude.{Bool, [], ◌≡◌, if◌then◌else◌}
use Rattle.std.proofs.Math.Bool.{true, false, not}
use Rattle.std.proofs.Math.Path.{refl, subst}
use Rattle.std.proofs.Common.{sym, arith, ltb-true}
use Rattle.std.proofs.Math.Nat.{sub-zero}
use Rattle.std.proofs.lemmas.Bool.{not-true}
use Rattle.std.proofs.Math.Dec.{eqb-suc-zero, ltb}
use Rattle.timer.specs.Control.{clock_steps}
use Rattle.timer.specs.Counting.{full}
use Rattle.timer.specs.Parts.{with_count, with_due}
use Rattle.timer.specs.Running.{takes_rise}
use Rattle.timer.specs.declared.Timer.{Timer}
use Rattle.clocks.specs.Steps.{at, turn, counts_in, scaled_after, either_side}
use Rattle.clocks.specs.Spans.{Span, idle, quiet_span}
use Rattle.clocks.specs.Counts.{lowers_of, lowered_of, counting, quiet_above}
use Rattle.clocks.specs.Jumps.{still_clocked}

-- n clocks make fewer counts than lower the counter to zero, or none from a prescaler past 31; or they are no source steps, and take
-- no held rise
unfoldable pub quiet_clocks : Bool → ℕ → Timer → Bool
quiet_clocks tin n t =
    if clock_steps t.tcr tin then ltb (n + full) (t.phase.prescaler.0 + turn * lowers_of t) else not (takes_rise t tin)

-- the timer after n such clocks: its counter lower by their counts, where they are source steps
unfoldable pub passed_clocks : Bool → ℕ → Timer → Timer
passed_clocks tin n t =
    if clock_steps t.tcr tin then at (scaled_after t.phase.prescaler.0 n) (with_count t (record { 0 = t.count.0 - counts_in t.phase.prescaler.0 n }))
    else t

-- they make fewer counts than lower the counter to zero, if any
fewer : (p n low : ℕ) → n + full < p + turn * low → 0 < counts_in p n → counts_in p n < low
fewer p n low l = either_side (λ c s. 0 < c → c < low) p n (λ a some. absurd (omega arith)) (λ a some. omega arith)

-- and so many lower the counter alone
lowered_alone : (t : Timer) (c : ℕ) → (0 < c → c < lowers_of t) → lowered_of t (lowers_of t - 1) c ≡ with_count t (record { 0 = t.count.0 - c })
unfolding lowered_of lowers_of
lowered_alone t zero h = rw sub-zero
lowered_alone t (suc c) h = simp eqb-suc-zero (go t.phase.due refl (h (omega arith)))
  where
    go : (b : Bool) → t.phase.due ≡ b → suc c < (if b then 0 else t.count.0)
        → counting t ((if b then 0 else t.count.0) - 1 + 1 - suc c) ≡ with_count t (record { 0 = t.count.0 - suc c })
    go true e l = absurd (omega arith)
    go false e l = let m : t.count.0 - 1 + 1 - suc c ≡ t.count.0 - suc c = omega arith in λ i. with_due (with_count t (record { 0 = m i })) (sym e i)

module _ (tin : Bool) (n : ℕ) (t : Timer) where
  abbrev counts : ℕ
  counts = counts_in t.phase.prescaler.0 n

  lowers_alone : clock_steps t.tcr tin ≡ true → (0 < counts → counts < lowers_of t)
      → Span tin n t (at (scaled_after t.phase.prescaler.0 n) (with_count t (record { 0 = t.count.0 - counts }))) (λ k. [])
  unfolding lowered_of
  lowers_alone h few =
      let q : ℕ = lowers_of t - 1 in
      subst (λ (u : Timer). Span tin n t (at (scaled_after t.phase.prescaler.0 n) u) (λ k. [])) (lowered_alone t counts few)
      (quiet_span tin (lowered_of t q) (still_clocked tin t h q) n t.phase.prescaler.0 (λ i l. let m = few (omega arith) in quiet_above t (omega arith) i (omega arith)))

  -- such clocks open nothing
  pub quiet_clocks_lem : quiet_clocks tin n t ≡ true → Span tin n t (passed_clocks tin n t) (λ k. [])
  unfolding quiet_clocks passed_clocks
  quiet_clocks_lem = go (clock_steps t.tcr tin) refl
    where
      go : (b : Bool) → clock_steps t.tcr tin ≡ b
          → (if b then ltb (n + full) (t.phase.prescaler.0 + turn * lowers_of t) else not (takes_rise t tin)) ≡ true
          → Span tin n t (if b then at (scaled_after t.phase.prescaler.0 n) (with_count t (record { 0 = t.count.0 - counts })) else t) (λ k. [])
      go true h q = lowers_alone h (fewer t.phase.prescaler.0 n (lowers_of t) (ltb-true (n + full) (t.phase.prescaler.0 + turn * lowers_of t) q))
      go false h q = idle tin t h (not-true (takes_rise t tin) q) n
