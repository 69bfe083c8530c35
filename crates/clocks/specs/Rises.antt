-- Clocks that are no source steps, and the first of which takes a held rise (02, R-2).
use Prim.Native.Nat.{ℕ, zero, suc}
use Rattle.std.specs.Prelude.{Bool, true, false, not, ◌&&◌, List, [], ◌≡◌, eqb, length, if◌then◌else◌}
use Rattle.std.proofs.lemmas.Bool.{false≢true, not-true}
use Rattle.std.proofs.Math.Path.{refl}
use Rattle.std.proofs.Math.Dec.{eqb-suc-zero}
use Rattle.bits.specs.Choice.{and_left, and_right}
use Rattle.timer.specs.Control.{clock_steps}
use Rattle.timer.specs.Running.{risen_of, takes_rise, after, openings, mark}
use Rattle.timer.specs.declared.Timer.{Timer}
use Rattle.timer.specs.declared.Run.{Run}
use Rattle.clocks.specs.Spans.{Span, idle, rise_first}

-- n clocks, at least one, are no source steps, and the first takes a held rise
unfoldable pub rises_first : Bool → ℕ → Timer → Bool
rises_first tin n t = not (eqb n 0) && (not (clock_steps t.tcr tin) && takes_rise t tin)

-- the timer after such clocks, of which the first alone does something, and how many opened
unfoldable pub risen_first : Timer → Run Timer
risen_first t = record { part = (risen_of t).part; used = if (risen_of t).opened then 1 else 0 }

-- the number of the first, after clock k, where it opens
unfoldable pub risen_moments : Timer → ℕ → List ℕ
risen_moments t k = mark (risen_of t).opened (suc k) []

-- as many as opened
pub risen_many : (t : Timer) (k : ℕ) → length (risen_moments t k) ≡ (risen_first t).used
unfolding risen_moments risen_first
risen_many t k = go (risen_of t).opened
  where
    go : (b : Bool) → length (mark b (suc k) []) ≡ (if b then 1 else 0)
    go true = refl
    go false = refl

module _ (tin : Bool) (t : Timer) where
  -- the first of such clocks takes the rise, and the others change nothing
  pub rises_first_lem : (n : ℕ) → rises_first tin n t ≡ true → Span tin n t (risen_first t).part (risen_moments t)
  unfolding rises_first risen_first risen_moments
  rises_first_lem zero h = absurd (false≢true h)
  rises_first_lem (suc n) h =
      let both = and_right (not (eqb (suc n) 0)) _ h in
      rise_first tin t (not-true (clock_steps t.tcr tin) (and_left _ (takes_rise t tin) both)) (and_right (not (clock_steps t.tcr tin)) _ both) n

  -- other clocks that are no source steps change nothing
  pub no_rise : (n : ℕ) → clock_steps t.tcr tin ≡ false → rises_first tin n t ≡ false → Span tin n t t (λ k. [])
  unfolding rises_first after openings
  no_rise zero h none = record { ends = refl; opens = λ k. refl }
  no_rise (suc n) h none = idle tin t h (simp (h, eqb-suc-zero) at none) (suc n)
