-- Clocks of the gate whose openings are known ahead: none, the first alone, or at regular clocks (01, 'Timer'; 02, R-2).
use Rattle.std.specs.Prelude.{ℕ, ◌+◌, Bool, true, ◌&&◌, List, [], ◌≡◌, length}
use Rattle.std.proofs.Common.{ap, ◌∙◌}
use Rattle.bits.specs.Choice.{and_left, and_right}
use Rattle.clocks.specs.Quiet.{quiet_clocks, passed_clocks, quiet_clocks_lem as timer-quiet}
use Rattle.clocks.specs.Regular.{regular_of, clocks_to, period_of, opened_in, moments_of, gone_on}
use Rattle.clocks.specs.Rises.{rises_first, risen_first, risen_moments, risen_many, rises_first_lem}
use Rattle.clocks.specs.Turns.{spaced_many, regular_clocks as timer-regular}
use Rattle.port_c.specs.Pins.{tin_level}
use Rattle.timer.specs.Control.{clock_steps}
use Rattle.timer.specs.declared.Run.{Run}
use Rattle.gate.specs.Clocking.{gate_after, gate_openings, gate_run}
use Rattle.gate.specs.Parts.{with_timer}
use Rattle.gate.specs.declared.Gate.{Gate}

-- n clocks open nothing, and only lower the counter
unfoldable pub quiet_gate : ℕ → Gate → Bool
quiet_gate n g = quiet_clocks (tin_level g.c) n g.timer

-- the gate after n such clocks
unfoldable pub passed_gate : ℕ → Gate → Gate
passed_gate n g = with_timer g (passed_clocks (tin_level g.c) n g.timer)

-- n clocks, at least one, are no source steps, and the first takes a held rise
unfoldable pub rises_gate : ℕ → Gate → Bool
rises_gate n g = rises_first (tin_level g.c) n g.timer

-- the gate after such clocks, and how many opened it: the first or none
unfoldable pub risen_gate : Gate → Run Gate
risen_gate g = record { part = with_timer g (risen_first g.timer).part; used = (risen_first g.timer).used }

-- the number of the first, after clock k, where it opens
unfoldable pub moments_risen : ℕ → Gate → List ℕ
moments_risen k g = risen_moments g.timer k

-- clocks are source steps, and open at regular clocks
unfoldable pub regular_gate : Gate → Bool
regular_gate g = clock_steps g.timer.tcr (tin_level g.c) && regular_of g.timer

-- how many of n such clocks open
unfoldable pub opened_gate : ℕ → Gate → ℕ
opened_gate n g = opened_in g.timer n

-- the gate after them
unfoldable pub gone_gate : ℕ → Gate → Gate
gone_gate n g = with_timer g (gone_on g.timer n)

-- the numbers of those that open, of the n after clock k
unfoldable pub moments_gate : ℕ → ℕ → Gate → List ℕ
moments_gate n k g = moments_of g.timer n k

-- quiet clocks lower the counter, and open nothing
pub quiet_clocks_lem : (n k : ℕ) (g : Gate) → quiet_gate n g ≡ true → (gate_after n g ≡ passed_gate n g) × (gate_openings n k g ≡ [])
unfolding quiet_gate passed_gate
quiet_clocks_lem n k g h = let s = timer-quiet (tin_level g.c) n g.timer h in (ap (with_timer g) s.ends, s.opens k)

-- the first of many clocks takes a held rise, and the others change nothing
pub rise_clocks : (n k : ℕ) (g : Gate) → rises_gate n g ≡ true → (gate_run n k g ≡ risen_gate g) × (gate_openings n k g ≡ moments_risen k g)
unfolding rises_gate risen_gate moments_risen gate_run
rise_clocks n k g h =
    let s = rises_first_lem (tin_level g.c) g.timer n h in (
      (λ i. record { part = with_timer g (s.ends i); used = (ap length (s.opens k) ∙ risen_many g.timer k) i }),
      s.opens k,
    )

-- regular clocks are as worked out ahead
pub regular_clocks : (n k : ℕ) (g : Gate) → regular_gate g ≡ true → (gate_after n g ≡ gone_gate n g) × (gate_openings n k g ≡ moments_gate n k g)
unfolding regular_gate gone_gate moments_gate
regular_clocks n k g h =
    let steps = and_left (clock_steps g.timer.tcr (tin_level g.c)) (regular_of g.timer) h in
    let regular = and_right (clock_steps g.timer.tcr (tin_level g.c)) (regular_of g.timer) h in
    let s = timer-regular (tin_level g.c) g.timer steps regular n in (ap (with_timer g) s.ends, s.opens k)

-- as many of them as open
pub moments_many : (n k : ℕ) (g : Gate) → length (moments_gate n k g) ≡ opened_gate n g
unfolding moments_gate opened_gate
moments_many n k g = spaced_many (period_of g.timer) (k + clocks_to g.timer) (opened_in g.timer n)
