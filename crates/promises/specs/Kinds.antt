-- Which events begin a run on CLK through the prescaler, with reload, from halt (01, 'Timer').
use Rattle.std.specs.Prelude.{ℕ, ◌<◌, Bool, not, ◌&&◌, ◌||◌, ◌↔◌, ◌≡◌, eqb, ltb}
use Rattle.std.proofs.Math.Bool.{true, false}
use Rattle.std.proofs.lemmas.Bool.{false≢true, eqb-false}
use Rattle.std.proofs.Math.Path.{refl, sym, subst}
use Rattle.std.proofs.Common.{ap, ◌∙◌, arith, eqb-true, ltb-true}
use Rattle.std.specs.Int.Bits.{bit_and}
use Rattle.bits.specs.Choice.{branch, and_left, and_right}
use Rattle.bits.specs.Field.{bit_of}
use Rattle.event.specs.declared.Event.{Event}
use Rattle.event.specs.declared.Event.TheVariants.{Write, Read, PortAcknowledge, TimerAcknowledge, Pin, Clocks, Reset}
use Rattle.event.specs.Map.{TCR}
use Rattle.port_c.specs.Pins.{tin_level}
use Rattle.timer.specs.Control.{tcr_bits, source_of, rolls_of, runs_of, by_rises, clock_steps}
use Rattle.timer.specs.Parts.{with_zds}
use Rattle.timer.specs.Registers.{switched_of, controlled_of, cleared_of, preloaded_of, reset_of as reset_timer}
use Rattle.timer.specs.Running.{tin_goes}
use Rattle.timer.specs.declared.Timer.{Timer}
use Rattle.clocks.specs.Kept.{after_keeps}
use Rattle.gate.specs.Fresh.{reset_gate}
use Rattle.gate.specs.Pins.{tin_event, line_event, gate_pinned}
use Rattle.gate.specs.Registers.{write_tcr, write_preload, write_tsr, gate_written}
use Rattle.gate.specs.declared.Gate.{Gate}
use Rattle.device.specs.Events.{effect}
use Rattle.device.specs.Following.{followed, gate_follows}
use Rattle.device.specs.declared.Device.{Device}
use Rattle.laws.specs.Stays.{Byte}
use Rattle.laws.specs.Touching.{tin_pin, tcr_holds, tin_level_lem, any_write, any_gate_pin}
use Rattle.promises.specs.Undisturbed.{tin_still}
use Rattle.promises.specs.Formula.{Halted, RunsOnClk, Reloads}

-- the timer is halted before, and runs on CLK through the prescaler with reload after
pub record Starting (before now : Device) : Type 0 where
  pub halted : Halted before
  pub runs : RunsOnClk now
  pub reload : Reloads now

-- the events that start such a run, where the timer is halted
pub data Start (d : Device) : Event → Type 0 where
  -- TCR is written: enabled, reload, source 00
  clk : (v : ℕ) → bit_of v 0 ≡ true → rolls_of v ≡ false → source_of v ≡ 0 → Start d (Write TCR v)
  -- TCR is written: enabled, reload, source 01 with TIN high
  gated : (v : ℕ) → bit_of v 0 ≡ true → rolls_of v ≡ false → source_of v ≡ 1 → tin_level d.gate.c ≡ true → Start d (Write TCR v)
  -- TIN rises, and TCR is: enabled, reload, source 01
  rise : bit_of d.gate.timer.tcr 0 ≡ true → rolls_of d.gate.timer.tcr ≡ false → source_of d.gate.timer.tcr ≡ 1 → Start d (Pin tin_pin true)

-- enabled, with source 00, or 01 and TIN high, it runs on CLK
clk_runs : (tcr : ℕ) (level : Bool) → bit_of tcr 0 ≡ true → source_of tcr ≡ 0 → clock_steps tcr level ≡ true
unfolding clock_steps runs_of
clk_runs tcr level b s = simp (b, s)

pub gated_runs : (tcr : ℕ) (level : Bool) → bit_of tcr 0 ≡ true → source_of tcr ≡ 1 → level ≡ true → clock_steps tcr level ≡ true
unfolding clock_steps runs_of
gated_runs tcr level b s h = simp (b, s, h)

-- and so alone
runs_by : (P : Type 0) (tcr : ℕ) (level : Bool) → clock_steps tcr level ≡ true
    → (bit_of tcr 0 ≡ true → source_of tcr ≡ 0 → P) → (bit_of tcr 0 ≡ true → source_of tcr ≡ 1 → level ≡ true → P) → P
unfolding clock_steps runs_of
runs_by P tcr level h on-clk on-gate =
    let tests = bit_of tcr 0 && (not (eqb (source_of tcr) 1) || level) in
    let runs : tests ≡ true = and_left tests (ltb (source_of tcr) 2) h in
    let few = ltb-true (source_of tcr) 2 (and_right tests (ltb (source_of tcr) 2) h) in
    let on = and_left (bit_of tcr 0) (not (eqb (source_of tcr) 1) || level) runs in
    let lets = and_right (bit_of tcr 0) (not (eqb (source_of tcr) 1) || level) runs in
    by_gate (eqb (source_of tcr) 1) refl on few lets
  where
    by_gate : (gate : Bool) → eqb (source_of tcr) 1 ≡ gate → bit_of tcr 0 ≡ true → source_of tcr < 2 → (not (eqb (source_of tcr) 1) || level) ≡ true → P
    by_gate true e on few lets = on-gate on (eqb-true (source_of tcr) 1 e) (rw e at lets)
    by_gate false e on few lets = on-clk on (omega (arith, few, eqb-false (source_of tcr) 1 e))

-- a halted timer does not run
contrary : (tcr : ℕ) (level : Bool) → runs_of tcr level ≡ false → clock_steps tcr level ≡ true → ⊥
unfolding clock_steps
contrary tcr level halted runs = false≢true (sym halted ∙ and_left (runs_of tcr level) (ltb (source_of tcr) 2) runs)

-- after a write of TCR it holds what was written, its unused bit apart, and a level at PC2 does not change it
pub controlled_tcr : (t : Timer) (v : ℕ) (tin : Bool) → (controlled_of t v tin).tcr ≡ bit_and v tcr_bits
unfolding controlled_of switched_of
controlled_tcr t v tin = branch (λ (x : Timer). x.tcr ≡ bit_and v tcr_bits) (runs_of (bit_and v tcr_bits) tin) _ _ (λ _. refl) (λ _. refl)

tin_keeps : (g : Gate) (level : Bool) → (tin_event g level).timer.tcr ≡ g.timer.tcr
unfolding tin_event tin_goes
tin_keeps g level =
    let t = g.timer in
    let P : Timer → Type 0 = λ x. x.tcr ≡ t.tcr in
    branch P (not (runs_of t.tcr level)) _ _
    (λ _. branch P (runs_of t.tcr (tin_level g.c)) _ _ (λ _. refl) (λ _. refl))
    (λ _. branch P (by_rises t.tcr && (not (tin_level g.c) && level)) _ _ (λ _. refl) (λ _. refl))

-- a gate that runs on CLK with reload
pub record Running (g : Gate) : Type 0 where
  pub runs : clock_steps g.timer.tcr (tin_level g.c) ≡ true
  pub reload : rolls_of g.timer.tcr ≡ false

module _ (d : Device) where
  tcr_runs : (v : ℕ) → clock_steps (bit_and v tcr_bits) (tin_level d.gate.c) ≡ true → rolls_of (bit_and v tcr_bits) ≡ false → Running (followed d.gate (Write TCR v))
  unfolding gate_written write_tcr
  tcr_runs v runs reload =
      let holds = controlled_tcr d.gate.timer v (tin_level d.gate.c) in
      record { runs = rw holds runs; reload = rw holds reload }

  -- each of the three kinds leaves the gate running, whatever the timer did before
  kind_runs : {e : Event} → Byte e → Start d e → Running (followed d.gate e)
  unfolding gate_pinned line_event
  kind_runs byte (clk v on reload source) =
      let h = tcr_holds v byte in
      tcr_runs v (clk_runs (bit_and v tcr_bits) (tin_level d.gate.c) (h.0 ∙ on) (h.2 ∙ source)) (h.1 ∙ reload)
  kind_runs byte (gated v on reload source high) =
      let h = tcr_holds v byte in
      tcr_runs v (gated_runs (bit_and v tcr_bits) (tin_level d.gate.c) (h.0 ∙ on) (h.2 ∙ source) high) (h.1 ∙ reload)
  kind_runs byte (rise on reload source) =
      let runs = gated_runs d.gate.timer.tcr true on source refl in
      let still = tin_still d.gate true runs in
      record { runs = rw (still, tin_level_lem d.gate true) runs; reload = rw still reload }

  module _ (halted : Halted d) where
    same_rests : (g : Gate) → g.timer.tcr ≡ d.gate.timer.tcr → tin_level g.c ≡ tin_level d.gate.c → {A : Type 0} → Running g → A
    same_rests g t l run = absurd (contrary d.gate.timer.tcr (tin_level d.gate.c) halted (rw (t, l) at run.runs))

    -- a write of TCR that leaves it running
    tcr_kind : (v : ℕ) → v < 256 → Running (write_tcr d.gate v) → Start d (Write TCR v)
    unfolding write_tcr
    tcr_kind v byte run =
        let holds = controlled_tcr d.gate.timer v (tin_level d.gate.c) in
        let h = tcr_holds v byte in
        let reload : rolls_of v ≡ false = sym h.1 ∙ (rw holds at run.reload) in
        runs_by (Start d (Write TCR v)) (bit_and v tcr_bits) (tin_level d.gate.c) (rw holds at run.runs)
        (λ on source. clk v (sym h.0 ∙ on) reload (sym h.2 ∙ source))
        (λ on source high. gated v (sym h.0 ∙ on) reload (sym h.2 ∙ source) high)

    write_kind : (r v : ℕ) → v < 256 → Running (gate_written d.gate r v) → Start d (Write r v)
    unfolding write_preload write_tsr preloaded_of cleared_of
    write_kind r v byte =
        let g = d.gate in
        any_write (λ (x : Gate). Running x → Start d (Write r v)) g r v
        (λ x a. same_rests x (ap (λ (t : Timer). t.tcr) a.timer) a.tin)
        (λ e run. subst (λ (x : ℕ). Start d (Write x v)) (sym e) (tcr_kind v byte run))
        (λ _. same_rests _ refl refl)
        (λ _ _. same_rests _ refl refl)
        (λ _. same_rests (write_tsr g v) (branch (λ (t : Timer). t.tcr ≡ g.timer.tcr) (bit_of v 0) (with_zds g.timer false) g.timer (λ _. refl) (λ _. refl)) refl)

    -- a level at PC2 that does
    tin_kind : (level : Bool) → Running (tin_event d.gate level) → Start d (Pin tin_pin level)
    tin_kind level run =
        let t = d.gate.timer in
        let keeps = tin_keeps d.gate level in
        let runs : clock_steps t.tcr level ≡ true = rw (keeps, tin_level_lem d.gate level) at run.runs in
        runs_by (Start d (Pin tin_pin level)) t.tcr level runs
        (λ on source. absurd (contrary t.tcr (tin_level d.gate.c) halted (clk_runs t.tcr (tin_level d.gate.c) on source)))
        (λ on source high. subst (λ (x : Bool). Start d (Pin tin_pin x)) (sym high) (rise on (rw keeps at run.reload) source))

    pin_kind : (n : ℕ) (level : Bool) → Running (gate_pinned d.gate n level) → Start d (Pin n level)
    pin_kind n level =
        any_gate_pin (λ (x : Gate). Running x → Start d (Pin n level)) d.gate n level
        (λ x a. same_rests x (ap (λ (t : Timer). t.tcr) a.timer) a.tin)
        (λ e run. subst (λ (x : ℕ). Start d (Pin x level)) (sym e) (tin_kind level run))

    -- what leaves a halted gate running is one of them
    kind_of : (e : Event) → Byte e → Running (followed d.gate e) → Start d e
    unfolding clock_steps runs_of bit_of reset_gate reset_timer
    kind_of (Write r v) byte run = write_kind r v byte run
    kind_of (Read r) byte run = same_rests d.gate refl refl run
    kind_of PortAcknowledge byte run = same_rests d.gate refl refl run
    kind_of TimerAcknowledge byte run = same_rests d.gate refl refl run
    kind_of (Pin n level) byte run = pin_kind n level run
    kind_of (Clocks n) byte run = same_rests (followed d.gate (Clocks n)) (after_keeps (tin_level d.gate.c) n d.gate.timer).tcr refl run
    kind_of Reset byte run = absurd (false≢true run.runs)

module _ (d : Device) (k : ℕ) (e : Event) where
  pub gate_runs : Starting d (effect d k e).device → Running (followed d.gate e)
  gate_runs s = record { runs = rw (gate_follows d k e) at s.runs; reload = rw (gate_follows d k e) at s.reload }

  -- Exactly the events of these three kinds start a run on CLK with reload from halt.
  pub three_kinds : Byte e → Starting d (effect d k e).device ↔ (Halted d × Start d e)
  three_kinds byte = (
    (λ s. (s.halted, kind_of d s.halted e byte (gate_runs s))),
    (λ h.
        let run = kind_runs d byte h.1 in
        record { halted = h.0; runs = rw (gate_follows d k e) run.runs; reload = rw (gate_follows d k e) run.reload }),
  )
