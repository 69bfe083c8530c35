-- When the timer opens on CLK through the prescaler, with reload (01, 'Timer').
use Rattle.std.specs.Prelude.{ℕ, ◌+◌, ◌-◌, ◌*◌, ◌/◌, ◌≤◌, true, false, List, ◌≡◌, refl, get_or, length}
use Rattle.std.proofs.Common.{◌∙◌}
use Rattle.event.specs.declared.Event.{Event}
use Rattle.port_c.specs.Pins.{tin_level}
use Rattle.timer.specs.Control.{rolls_of, runs_of, clock_steps}
use Rattle.timer.specs.Counting.{full}
use Rattle.clocks.specs.Periods.{multiples, Loading, enters, openings_are, openings_count, when_it_opens}
use Rattle.device.specs.Events.{made}
use Rattle.device.specs.declared.Device.{Device}
use Rattle.wire.specs.Needs.{needs_of}
use Rattle.promises.specs.Undisturbed.{Undisturbed, Follows, clocks_alone, high_runs}

-- the timer is halted: not enabled, or with source 01 and TIN low
abbrev pub Halted : Device → Type 0
Halted d = runs_of d.gate.timer.tcr (tin_level d.gate.c) ≡ false

-- it runs on CLK through the prescaler: with source 00, or 01 and TIN high
abbrev pub RunsOnClk : Device → Type 0
RunsOnClk d = clock_steps d.gate.timer.tcr (tin_level d.gate.c) ≡ true

-- it reloads after zero
abbrev pub Reloads : Device → Type 0
Reloads d = rolls_of d.gate.timer.tcr ≡ false

-- the timer has just entered run on CLK with reload: prescaler 31, a load due
pub record Starts (d : Device) : Type 0 where
  pub runs : RunsOnClk d
  pub reload : Reloads d
  pub full : d.gate.timer.phase.prescaler.0 ≡ full
  pub due : d.gate.timer.phase.due ≡ true

-- the preload, N
abbrev pub preload_of : Device → ℕ
preload_of d = d.gate.timer.preload.0

-- events from the start on, k clocks having passed before
module _ (d : Device) (starts : Starts d) (es : List Event) (undisturbed : Undisturbed d.gate.timer.tcr es) (k : ℕ) where
  high : clock_steps d.gate.timer.tcr true ≡ true
  high = high_runs d.gate.timer.tcr (tin_level d.gate.c) starts.runs

  itself : Follows d.gate.timer d.gate
  itself = record { alike = refl; runs = starts.runs }

  module _ (some : 1 ≤ preload_of d) where
    loading : Loading true d.gate.timer
    loading = enters true d.gate.timer high starts.reload some starts.full starts.due

    -- With preload N of 1 or more it opens 32 x (N + 1) clocks after the start, and again each time as many have passed; never else.
    pub formula : (made d k es).openings ≡ multiples (32 * (preload_of d + 1)) k ((needs_of es).clocks / (32 * (preload_of d + 1)))
    formula = clocks_alone es d k d.gate.timer itself undisturbed ∙ openings_are true d.gate.timer loading (needs_of es).clocks k

    -- It opens once for every 32 x (N + 1) clocks.
    pub how_many : length (made d k es).openings ≡ (needs_of es).clocks / (32 * (preload_of d + 1))
    how_many = rw (clocks_alone es d k d.gate.timer itself undisturbed) (openings_count true d.gate.timer loading (needs_of es).clocks k)

    -- Opening i, counted from 1, comes 32 x i x (N + 1) clocks after the start.
    pub opening_at : (i : ℕ) → 1 ≤ i → i ≤ (needs_of es).clocks / (32 * (preload_of d + 1)) → get_or (made d k es).openings (i - 1) 0 ≡ k + 32 * i * (preload_of d + 1)
    opening_at i one most = rw (clocks_alone es d k d.gate.timer itself undisturbed) (when_it_opens true d.gate.timer loading (needs_of es).clocks k i one most)
