-- Each way to play many clocks makes what single clocks do.
use Rattle.std.proofs.Common.{ℕ, Bool, true, false, [], length, ◌≡◌, sym, ap, ◌∙◌}
use Rattle.timer.specs.Control.{clock_steps}
use Rattle.timer.specs.Running.{openings}
use Rattle.timer.specs.declared.Timer.{Timer}
use Rattle.timer.specs.declared.Run.{Run}
use Rattle.clocks.specs.Clocks.{clocks_of}
use Rattle.clocks.specs.Regular.{regular_of, regularly_of, moments_of}
use Rattle.clocks.specs.Rises.{rises_first, risen_first, risen_moments, risen_many, rises_first_lem, no_rise}
use Rattle.clocks.specs.Turns.{regular_clocks, regular_many}

module _ (tin : Bool) (n k : ℕ) (t : Timer) where
  -- clocks whose first takes a held rise,
  pub by_rise : rises_first tin n t ≡ true → risen_first t ≡ clocks_of tin n k t
  unfolding clocks_of
  by_rise h =
      let s = rises_first_lem tin t n h in
      λ i. record { part = sym s.ends i; used = (sym (risen_many t k) ∙ ap length (sym (s.opens k))) i }

  pub at_rise : rises_first tin n t ≡ true → openings tin n k t ≡ risen_moments t k
  at_rise h = (rises_first_lem tin t n h).opens k

  -- clocks that do nothing,
  pub idly : clock_steps t.tcr tin ≡ false → rises_first tin n t ≡ false → ◌≡◌ {A = Run Timer} (record { part = t; used = 0 }) (clocks_of tin n k t)
  unfolding clocks_of
  idly h none = let s = no_rise tin t n h none in rw (s.ends, s.opens k)

  pub never : clock_steps t.tcr tin ≡ false → rises_first tin n t ≡ false → openings tin n k t ≡ []
  never h none = (no_rise tin t n h none).opens k

  -- and clocks that open at regular clocks
  pub by_turns : clock_steps t.tcr tin ≡ true → regular_of t ≡ true → regularly_of t n ≡ clocks_of tin n k t
  unfolding clocks_of
  by_turns h g = rw (regular_many tin t h g n k, (regular_clocks tin t h g n).ends)

  pub at_turns : clock_steps t.tcr tin ≡ true → regular_of t ≡ true → openings tin n k t ≡ moments_of t n k
  at_turns h g = (regular_clocks tin t h g n).opens k
