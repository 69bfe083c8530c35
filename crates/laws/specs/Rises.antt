-- Rises of TIN, each a theorem of its own (02, R-2).
use Rattle.std.specs.Prelude.{ℕ, suc, ◌≡◌, refl, Bool, true, false, not, ◌&&◌, ◌||◌, [], if◌then◌else◌}
use Rattle.std.proofs.Common.{arith, ltb-true, le-ltb, ne_eqb}
use Rattle.bits.specs.Choice.{and-false, both}
use Rattle.timer.specs.Control.{source_of, runs_of, by_rises, clock_steps}
use Rattle.timer.specs.Counting.{quiet, step_of}
use Rattle.timer.specs.Parts.{with_rise}
use Rattle.timer.specs.Registers.{switched_of}
use Rattle.timer.specs.Running.{tin_goes, risen_of, takes_rise, clocked_timer, mark}
use Rattle.timer.specs.declared.Timer.{Timer}
use Rattle.clocks.specs.Spans.{Span, idle, rise_first}

-- the timer runs, and it is rises of TIN that step it: source 10 or 11
pub record RunsByRises (tin : Bool) (t : Timer) : Type 0 where
  pub runs : runs_of t.tcr tin ≡ true
  pub rises : by_rises t.tcr ≡ true

-- with source 10 or 11 a timer runs or not whatever TIN's level is,
pub any_level : (tcr : ℕ) (a b : Bool) → by_rises tcr ≡ true → runs_of tcr a ≡ runs_of tcr b
unfolding runs_of by_rises
any_level tcr a b rises = rw (ne_eqb (source_of tcr) 1 (λ e. omega (arith, ltb-true 1 (source_of tcr) rises)))

-- and no clock is a source step
no_step : (tcr : ℕ) (tin : Bool) → runs_of tcr tin ≡ true → by_rises tcr ≡ true → clock_steps tcr tin ≡ false
unfolding clock_steps by_rises
no_step tcr tin runs rises = simp (runs, le-ltb (source_of tcr) 2 (omega (arith, ltb-true 1 (source_of tcr) rises)))

module _ (t : Timer) (tin : Bool) (by : RunsByRises tin t) where
  held : (rises : Bool) → (if rises then with_rise t true else t) ≡ with_rise t (t.phase.rise || rises)
  held rises = go t.phase.rise rises refl
    where
      go : (rise rises : Bool) → t.phase.rise ≡ rise → (if rises then with_rise t true else t) ≡ with_rise t (rise || rises)
      go true true e = refl
      go true false e = λ i. with_rise t (e i)
      go false true e = refl
      go false false e = λ i. with_rise t (e i)

  -- 'a rise with source 10 or 11 is held .. further rises before it add nothing': a level at TIN holds a rise where it is one, takes
  -- none back, and moves nothing else of the timer.
  pub level_comes : (level : Bool) → tin_goes t tin level ≡ with_rise t (t.phase.rise || (not tin && level))
  unfolding tin_goes
  level_comes level = simp (any_level t.tcr level tin by.rises, by.runs, by.rises) (held (not tin && level))

  -- '.. and takes effect at the next clock': the first of many clocks takes the step of a held rise, and the others do nothing.
  pub clocks_take : t.phase.rise ≡ true → (n : ℕ) → Span tin (suc n) t (risen_of t).part (λ k. mark (risen_of t).opened (suc k) [])
  unfolding takes_rise
  clocks_take rise n = rise_first tin t (no_step t.tcr tin by.runs by.rises) (both _ _ (both _ _ by.runs by.rises) rise) n

  -- Where none is held clocks do nothing.
  pub clocks_rest : t.phase.rise ≡ false → (n : ℕ) → Span tin n t t (λ k. [])
  unfolding takes_rise
  clocks_rest none n = idle tin t (no_step t.tcr tin by.runs by.rises) (simp (by.runs, by.rises, none)) n

-- With sources 00 and 01 a clock is what it was, whatever is held.
pub clock_as_before : (tin : Bool) (t : Timer) → by_rises t.tcr ≡ false → clocked_timer tin t ≡ (if clock_steps t.tcr tin then step_of t else quiet t)
unfolding clocked_timer takes_rise
clock_as_before tin t clk = rw (clk, and-false (runs_of t.tcr tin)) refl

-- 'a change of source drops it': a TCR with another source leaves no rise held.
pub source_drops : (t : Timer) (tcr : ℕ) → (source_of t.tcr ≡ source_of tcr → ⊥) → (switched_of t tcr).phase.rise ≡ false
unfolding switched_of
source_drops t tcr other = rw (ne_eqb (source_of t.tcr) (source_of tcr) other) (and-false t.phase.rise)
