-- Openings that come at regular clocks (01, 'Timer': at zero the counter is reloaded or rolls, and later counts lower it again).
use Rattle.std.specs.Prelude.{ℕ, zero, suc, ◌+◌, ◌-◌, ◌*◌, ◌/◌, ◌%◌, Bool, true, false, not, ◌&&◌, ◌||◌, List, [], ◌∷◌, eqb, ltb, if◌then◌else◌}
use Rattle.std.specs.Bool.{beq}
use Rattle.timer.specs.Control.{rolls_of}
use Rattle.timer.specs.Counting.{full, greatest}
use Rattle.timer.specs.Parts.{with_zds, with_square}
use Rattle.timer.specs.declared.Timer.{Timer}
use Rattle.timer.specs.declared.Run.{Run}
use Rattle.clocks.specs.Steps.{at, turn, steps_to}
use Rattle.clocks.specs.Counts.{counting}
use Rattle.clocks.specs.Jumps.{over_of}

-- a load that is due is not one of zero, and a count at zero leads on to more than zero
unfoldable pub regular_of : Timer → Bool
regular_of t = if t.phase.due && eqb t.preload.0 0 then false else rolls_of t.tcr || not (eqb t.preload.0 0)

-- the counts from one opening to the next: one that reloads or rolls, and those that lower the counter to zero
unfoldable pub counts_between : Timer → ℕ
counts_between t = if rolls_of t.tcr then greatest + 1 else t.preload.0 + 1

-- the counts before the first that opens
unfoldable pub counts_before : Timer → ℕ
counts_before t = if t.phase.due then t.preload.0 else if eqb t.count.0 0 then counts_between t - 1 else t.count.0 - 1

-- the clocks to the first opening, its own among them
unfoldable pub clocks_to : Timer → ℕ
clocks_to t = steps_to t.phase.prescaler.0 (counts_before t)

-- the clocks from one opening to the next
unfoldable pub period_of : Timer → ℕ
period_of t = turn * counts_between t

-- how many of n clocks open
unfoldable pub opened_in : Timer → ℕ → ℕ
opened_in t n = if ltb n (clocks_to t) then 0 else (n - clocks_to t) / period_of t + 1

-- q numbers from k on, each p more than the one before
abbrev pub spaced : ℕ → ℕ → ℕ → List ℕ
spaced p k zero = []
spaced p k (suc q) = k ∷ spaced p (k + p) q

-- the numbers of those of n clocks after clock k that open
abbrev pub moments_of : Timer → ℕ → ℕ → List ℕ
moments_of t n k = spaced (period_of t) (k + clocks_to t) (opened_in t n)

-- the square wave after the first opening and so many more, each of which turns it over
unfoldable pub square_after : Timer → ℕ → Bool
square_after t turns = beq t.phase.square (eqb (turns % 2) 1)

-- the timer some clocks after an opening, fewer than lead to the next, with its square wave
unfoldable pub since_of : Timer → ℕ → Bool → Timer
since_of t rest square =
    with_square (with_zds (counting (at (full - rest % turn) t) (if eqb (rest / turn) 0 then 0 else counts_between t - rest / turn)) true) square

-- the timer after n clocks
unfoldable pub gone_on : Timer → ℕ → Timer
gone_on t n =
    if ltb n (clocks_to t) then (over_of t (counts_before t) n).timer
    else since_of t ((n - clocks_to t) % period_of t) (square_after t ((n - clocks_to t) / period_of t))

-- and how many of them opened
abbrev pub regularly_of : Timer → ℕ → Run Timer
regularly_of t n = record { part = gone_on t n; used = opened_in t n }
