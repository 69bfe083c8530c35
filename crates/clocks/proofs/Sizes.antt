-- What is reckoned of regular openings fits 64 bits, whatever 32 bits the counter and the preload hold.
use Prim.Native.Nat.{ℕ, ◌+◌, ◌-◌, ◌*◌, ◌/◌, ◌%◌, ◌≤◌, ◌<◌, ◌^◌}
use mathlib.Core.Path.{◌≡◌}
use native.Mathlib.Nat.{add-mul, one-mul, zero-mul, div-mul-le_self, mod-lt}
use native.Mathlib.Omega.{arith}
use lib.Dec.{eqb, ltb}
use Rattle.bits.specs.Choice.{branch}
use Rattle.timer.specs.Control.{rolls_of}
use Rattle.timer.specs.declared.Timer.{Timer}
use Rattle.clocks.specs.Steps.{turn, steps_to}
use Rattle.clocks.specs.Regular.{counts_between, counts_before, clocks_to, period_of, opened_in}

pub some_between : (t : Timer) → 1 ≤ counts_between t
unfolding counts_between
some_between t = branch (λ (n : ℕ). 1 ≤ n) (rolls_of t.tcr) _ _ (λ r. omega arith) (λ r. omega arith)

pub some_period : (t : Timer) → 1 ≤ period_of t
unfolding period_of
some_period t = omega (arith, some_between t)

-- so many openings span no more than the clocks and one turn
pub opened_span : (t : Timer) (n opened period : ℕ) → opened ≡ opened_in t n → period ≡ period_of t → opened * period ≤ n + period
unfolding opened_in
opened_span t n opened period o p =
    rw (o, p)
    (branch (λ (m : ℕ). m * period_of t ≤ n + period_of t) (ltb n (clocks_to t)) _ _ (λ l. rw zero-mul (omega arith))
    (λ l. rw (add-mul, one-mul) (omega (arith, div-mul-le_self (n - clocks_to t) (period_of t)))))

-- fewer clocks than a turn's make fewer counts than its
pub past_less : (t : Timer) (m period between : ℕ) → period ≡ period_of t → between ≡ counts_between t → m % period / turn < between
unfolding period_of
past_less t m period between p b = rw (p, b) (omega (arith, mod-lt m (some_period t)))

module _ (t : Timer) (preload : t.preload.0 < 2 ^ 32) (count : t.count.0 < 2 ^ 32) where
  pub most_between : counts_between t ≤ 2 ^ 32
  unfolding counts_between
  most_between = branch (λ (n : ℕ). n ≤ 2 ^ 32) (rolls_of t.tcr) _ _ (λ r. omega arith) (λ r. omega arith)

  pub most_before : counts_before t < 2 ^ 32
  unfolding counts_before
  most_before =
      branch (λ (n : ℕ). n < 2 ^ 32) t.phase.due _ _ (λ d. preload)
      (λ d. branch (λ (n : ℕ). n < 2 ^ 32) (eqb t.count.0 0) _ _ (λ z. omega (arith, most_between, some_between t)) (λ z. omega arith))

  pub most_period : period_of t ≤ 2 ^ 37
  unfolding period_of
  most_period = omega (arith, most_between)

  pub most_first : t.phase.prescaler.0 < 256 → clocks_to t < 2 ^ 38
  unfolding clocks_to steps_to
  most_first p = omega (arith, most_before)
