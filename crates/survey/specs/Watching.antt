-- The gate followed through clocks, with how many of them open it (01, 'Timer').
use Rattle.std.specs.Prelude.{ℕ, zero, suc, ◌≤◌, Bool, true, false, [], ◌≡◌, length}
use Rattle.std.proofs.Math.Path.{refl}
use mir.Val.{bool_byte}
use Rattle.port_c.specs.Pins.{tin_level}
use Rattle.timer.specs.Control.{clock_steps}
use Rattle.timer.specs.Running.{risen_of, takes_rise, after, openings, mark}
use Rattle.timer.specs.declared.Timer.{Timer}
use Rattle.timer.specs.declared.Stepped.{Stepped}
use Rattle.timer.specs.declared.Run.{Run}
use Rattle.clocks.specs.Numbers.{at_most}
use Rattle.clocks.specs.Spans.{idle, rise_first}
use Rattle.gate.specs.Clocking.{gate_after, gate_openings}
use Rattle.gate.specs.Parts.{with_timer}
use Rattle.gate.specs.declared.Gate.{Gate}

-- a gate, and how often it opened on the way there
abbrev pub watched : Gate → ℕ → Run Gate
watched g n = record { part = g; used = n }

-- n clocks
unfoldable pub watched_clocks : Gate → ℕ → Run Gate
watched_clocks g n = watched (gate_after n g) (length (gate_openings n 0 g))

-- no more of them open it than there are
pub at_most_clocks : (g : Gate) (n : ℕ) → (watched_clocks g n).used ≤ n
unfolding watched_clocks
at_most_clocks g n = at_most (tin_level g.c) n 0 g.timer

module _ (g : Gate) (n : ℕ) (h : clock_steps g.timer.tcr (tin_level g.c) ≡ false) where
  -- where clocks are no source steps and no rise is held for them, the gate stands,
  pub stands : takes_rise g.timer (tin_level g.c) ≡ false → watched g 0 ≡ watched_clocks g n
  unfolding watched_clocks
  stands none = let s = idle (tin_level g.c) g.timer h none n in rw (s.ends, s.opens 0)

  -- as it does where no clock passes;
  pub without_clocks : n ≡ 0 → watched g 0 ≡ watched_clocks g n
  unfolding watched_clocks after openings
  without_clocks e = rw e

  -- else the first takes the rise
  one_number : (b : Bool) → bool_byte b ≡ length (mark b 1 [])
  one_number true = refl
  one_number false = refl

  rises_in : (m : ℕ) → takes_rise g.timer (tin_level g.c) ≡ true
      → watched (with_timer g (risen_of g.timer).part) (bool_byte (risen_of g.timer).opened) ≡ watched_clocks g (suc m)
  unfolding watched_clocks
  rises_in m rise =
      let s = rise_first (tin_level g.c) g.timer h rise m in
      rw (s.ends, s.opens 0, one_number (risen_of g.timer).opened) refl

  pub rises : takes_rise g.timer (tin_level g.c) ≡ true → (n ≡ 0 → ⊥) → (c : Stepped Timer) → c ≡ risen_of g.timer
      → watched (with_timer g c.part) (bool_byte c.opened) ≡ watched_clocks g n
  rises rise some c took = rw took (go n some)
    where
      go : (m : ℕ) → (m ≡ 0 → ⊥) → watched (with_timer g (risen_of g.timer).part) (bool_byte (risen_of g.timer).opened) ≡ watched_clocks g m
      go zero none = absurd (none refl)
      go (suc m) _ = rises_in m rise
