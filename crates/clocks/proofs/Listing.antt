-- The loop of `listed`: what is left to list fills the row as all did at the start.
use Prim.Native.Nat.{ℕ, suc, ◌+◌, ◌-◌, ◌*◌, ◌≤◌, ◌<◌, ◌^◌}
use Rattle.std.specs.Prelude.{Bool, true, false, min, leb}
use Rattle.std.proofs.Common.{leb-true, leb-false}
use mathlib.Core.List.{List, map}
use mathlib.Core.Path.{◌≡◌, refl, sym, ◌∙◌}
use native.Mathlib.Nat.{suc-mul}
use native.Mathlib.Numerals.{add-one}
use native.Mathlib.Omega.{arith}
use lib.ListN.{length, set}
use lib.Seq.{sets}
use Rattle.clocks.specs.Clocks.{clock_number}
use Rattle.clocks.specs.Filling.{past_end}
use Rattle.clocks.specs.Regular.{spaced}

-- from `many` numbers, the first of them `first`, to go into the row row₀ from place `at`, to those from another place on
pub record Listing (period first many : ℕ) (row₀ : List ℕ) (at : ℕ) (row : List ℕ) (place number : ℕ) : Type 0 where
  pub fills : sets row place (map clock_number (spaced period number (at + many - place))) ≡ sets row₀ at (map clock_number (spaced period first many))
  pub fits : number + (at + many - place) * period < 2 ^ 64

pub begins : (period first many : ℕ) (row : List ℕ) (at : ℕ) → first + many * period < 2 ^ 64 → Listing period first many row at row at first
begins period first many row at f = let e : at + many - at ≡ many = omega arith in record { fills = rw e; fits = rw e f }

module _ (period first many : ℕ) (row₀ : List ℕ) (at : ℕ) (row : List ℕ) (place number : ℕ) (g : Listing period first many row₀ at row place number) where
  module _ (some : place < at + many) where
    one_more : at + many - place ≡ suc (at + many - (place + 1))
    one_more = omega arith

    pub fits_on : number + period + (at + many - (place + 1)) * period < 2 ^ 64
    fits_on = omega (arith, rw (one_more, suc-mul) at g.fits)

    -- a number goes in
    pub noted : (x : ℕ) → x ≡ clock_number number → Listing period first many row₀ at (set row place x) (place + 1) (number + period)
    noted x e =
        let more : at + many - place ≡ suc (at + many - suc place) = omega arith in
        record { fills = rw (add-one place, e) (rw more at g.fills); fits = fits_on }

  -- all are in, or the row is full
  pub ends : (last end : ℕ) → last ≡ min (at + many) (2 ^ 64 - 1) → end ≡ min (length row₀) last → end ≤ place
      → length row ≡ length row₀ → length row₀ < 2 ^ 64 → row ≡ sets row₀ at (map clock_number (spaced period first many))
  ends last end limit e past long short = go (leb (length row) place) refl
    where
      go : (b : Bool) → leb (length row) place ≡ b → row ≡ sets row₀ at (map clock_number (spaced period first many))
      go true l = sym (past_end row place (map clock_number (spaced period number (at + many - place))) (leb-true _ _ l)) ∙ g.fills
      go false l = let n : at + many - place ≡ 0 = omega (arith, leb-false _ _ l) in rw n at g.fills
