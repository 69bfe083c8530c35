-- A run on CLK that no event disturbs (01, 'Timer').
use Prim.Native.Nat.{ℕ, zero, suc, ◌+◌, ◌≤◌, ◌<◌}
use Rattle.std.specs.Prelude.{Bool, false, not, ◌&&◌, ◌||◌, List, [], ◌∷◌, ◌++◌, ◌≡◌, eqb, ltb}
use Rattle.std.proofs.Math.Bool.{true}
use Rattle.std.proofs.lemmas.Bool.{false≢true}
use Rattle.std.proofs.Math.Path.{refl, ap}
use Rattle.std.proofs.Common.{sym, ◌∙◌, zero-add, arith, ne_eqb, le-ltb, ltb-true}
use Rattle.bits.specs.Choice.{branch, and_left, and_right}
use Rattle.bits.specs.Field.{bit_of}
use Rattle.event.specs.Map.{TCR, CPRH, number_bytes}
use Rattle.event.specs.declared.Event.{Event}
use Rattle.event.specs.declared.Event.TheVariants.{Write, Read, PortAcknowledge, TimerAcknowledge, Pin, Clocks, Reset}
use Rattle.port_c.specs.Pins.{tin_level}
use Rattle.timer.specs.Control.{source_of, runs_of, by_rises, clock_steps}
use Rattle.timer.specs.Running.{tin_goes, after, openings, clocked_timer, mark}
use Rattle.timer.specs.Parts.{with_tivr, with_zds}
use Rattle.timer.specs.Registers.{cleared_of}
use Rattle.timer.specs.declared.Timer.{Timer}
use Rattle.timer.specs.declared.Stepped.{Stepped}
use Rattle.clocks.specs.Alike.{Alike, after_alike, alike}
use Rattle.clocks.specs.Kept.{after_keeps}
use Rattle.clocks.specs.Spans.{split, step_clock}
use Rattle.gate.specs.Clocking.{gate_after}
use Rattle.gate.specs.Parts.{with_timer}
use Rattle.gate.specs.Pins.{tin_event, gate_pinned}
use Rattle.gate.specs.Registers.{write_tsr, gate_written}
use Rattle.gate.specs.declared.Gate.{Gate}
use Rattle.device.specs.Registers.{read_of, write_of}
use Rattle.device.specs.Pins.{pin_of}
use Rattle.device.specs.Clocking as device
use Rattle.device.specs.ManyClocks.{halves, opens}
use Rattle.device.specs.Events.{effect, made}
use Rattle.device.specs.Following.{write_gate, read_gate, pin_gate}
use Rattle.device.specs.declared.Device.{Device}
use Rattle.wire.specs.Needs.{needs_of}
use Rattle.laws.specs.Touching.{Agree, tin_pin, any_write, any_gate_pin, tin_level_lem}

-- no reset, no write of TCR or of a preload register and, with source 01, no TIN at low: by these alone is a run on CLK halted, or its
-- source, preload or reload changed
abbrev pub Undisturbing : ℕ → Event → Type 0
Undisturbing tcr (Write r v) = (r ≡ TCR → ⊥) × (CPRH ≤ r → r < CPRH + number_bytes → ⊥)
Undisturbing tcr (Read r) = Unit {0}
Undisturbing tcr PortAcknowledge = Unit {0}
Undisturbing tcr TimerAcknowledge = Unit {0}
Undisturbing tcr (Pin n level) = source_of tcr ≡ 1 → n ≡ tin_pin → level ≡ true
Undisturbing tcr (Clocks n) = Unit {0}
Undisturbing tcr Reset = ⊥

abbrev pub Undisturbed : ℕ → List Event → Type 0
Undisturbed tcr [] = Unit {0}
Undisturbed tcr (e ∷ es) = Undisturbing tcr e × Undisturbed tcr es

-- TIN high keeps running what runs
high_tests : (enabled gated few : Bool) → ((enabled && (not gated || false)) && few) ≡ true → ((enabled && (not gated || true)) && few) ≡ true
high_tests true true few h = absurd (false≢true h)
high_tests true false few h = h
high_tests false gated few h = h

pub high_runs : (tcr : ℕ) (level : Bool) → clock_steps tcr level ≡ true → clock_steps tcr true ≡ true
unfolding clock_steps runs_of
high_runs tcr true h = h
high_runs tcr false h = high_tests (bit_of tcr 0) (eqb (source_of tcr) 1) (ltb (source_of tcr) 2) h

-- so does any level with a source other than 01
level_runs : (tcr : ℕ) (old new : Bool) → clock_steps tcr old ≡ true → (source_of tcr ≡ 1 → new ≡ true) → clock_steps tcr new ≡ true
unfolding clock_steps runs_of
level_runs tcr old true h stays = high_runs tcr old h
level_runs tcr old false h stays =
    let other : eqb (source_of tcr) 1 ≡ false = ne_eqb (source_of tcr) 1 (λ e. absurd (false≢true (stays e))) in
    simp other (simp other at h)

-- a run on CLK is the same with TIN at either level that lets it run
module _ (level : Bool) where
  same_clock : (t : Timer) → clock_steps t.tcr level ≡ true → clocked_timer level t ≡ clocked_timer true t
  same_clock t h = step_clock level t h ∙ sym (step_clock true t (high_runs t.tcr level h))

  still_clocked : (n : ℕ) (t : Timer) → clock_steps t.tcr level ≡ true → clock_steps (after level n t).tcr level ≡ true
  still_clocked n t h = rw (after_keeps level n t).tcr h

  same_after : (n : ℕ) (t : Timer) → clock_steps t.tcr level ≡ true → after level n t ≡ after true n t
  unfolding after
  same_after zero t h = refl
  same_after (suc n) t h =
      same_after n (clocked_timer level t).part (still_clocked 1 t h) ∙ ap (λ (c : Stepped Timer). after true n c.part) (same_clock t h)

  same_openings : (n k : ℕ) (t : Timer) → clock_steps t.tcr level ≡ true → openings level n k t ≡ openings true n k t
  unfolding after openings
  same_openings zero k t h = refl
  same_openings (suc n) k t h =
      ap (mark (clocked_timer level t).opened (suc k)) (same_openings n (suc k) (clocked_timer level t).part (still_clocked 1 t h))
      ∙ ap (λ (c : Stepped Timer). mark c.opened (suc k) (openings true n (suc k) c.part)) (same_clock t h)

-- a change of TIN that leaves a run on CLK running does nothing to it
pub tin_quiet : (t : Timer) (old new : Bool) → clock_steps t.tcr new ≡ true → tin_goes t old new ≡ t
unfolding tin_goes clock_steps by_rises
tin_quiet t old new h =
    let runs = and_left (runs_of t.tcr new) (ltb (source_of t.tcr) 2) h in
    let few = ltb-true (source_of t.tcr) 2 (and_right (runs_of t.tcr new) (ltb (source_of t.tcr) 2) h) in
    simp (runs, le-ltb 1 (source_of t.tcr) (omega arith))

pub tin_still : (g : Gate) (level : Bool) → clock_steps g.timer.tcr level ≡ true → (tin_event g level).timer ≡ g.timer
unfolding tin_event
tin_still g level h = tin_quiet g.timer (tin_level g.c) level h

-- the gate's timer counts as t does, and runs on CLK with TIN at its level
pub record Follows (t : Timer) (g : Gate) : Type 0 where
  pub alike : Alike g.timer t
  pub runs : clock_steps g.timer.tcr (tin_level g.c) ≡ true

module _ (t : Timer) (g : Gate) (f : Follows t g) where
  -- it follows where timer and TIN's level are as they were
  same_follows : (x : Gate) → Agree g x → Follows t x
  same_follows x a = record { alike = rw a.timer f.alike; runs = rw (a.timer, a.tin) f.runs }

  -- and whatever TIVR and ZDS show
  shown : (tivr : ℕ) (zds : Bool) → Follows t (with_timer g (with_zds (with_tivr g.timer tivr) zds))
  shown tivr zds = record { alike = f.alike; runs = f.runs }

  write_follows : (r v : ℕ) → Undisturbing t.tcr (Write r v) → Follows t (gate_written g r v)
  unfolding write_tsr cleared_of
  write_follows r v u =
      any_write (Follows t) g r v same_follows
      (λ e. absurd (u.0 e))
      (λ _. shown v g.timer.phase.zds)
      (λ low high. absurd (u.1 low high))
      (λ _. branch (λ (x : Timer). Follows t (with_timer g x)) (bit_of v 0) (with_zds g.timer false) g.timer (λ _. shown g.timer.tivr false) (λ _. f))

  pin_follows : (n : ℕ) (level : Bool) → Undisturbing t.tcr (Pin n level) → Follows t (gate_pinned g n level)
  pin_follows n level u =
      any_gate_pin (Follows t) g n level same_follows
      (λ e.
      let runs = level_runs g.timer.tcr (tin_level g.c) level f.runs (λ s. u (ap (λ (x : Timer). source_of x.tcr) (sym f.alike) ∙ s) e) in
      let still = tin_still g level runs in
      record { alike = rw still f.alike; runs = rw (tin_level_lem g level, still) runs })

  clocks_follow : (n : ℕ) → Follows (after true n t) (gate_after n g)
  clocks_follow n =
      rw (same_after (tin_level g.c) n g.timer f.runs)
      (record { alike = after_alike true n g.timer t f.alike; runs = rw (after_keeps true n g.timer).tcr f.runs })

-- The openings of undisturbed events are those of their clocks alone.
pub clocks_alone : (es : List Event) (d : Device) (k : ℕ) (t : Timer) → Follows t d.gate → Undisturbed t.tcr es
    → (made d k es).openings ≡ openings true (needs_of es).clocks k t
unfolding made needs_of effect openings
clocks_alone [] d k t f u = refl
clocks_alone (Write r v ∷ es) d k t f u =
    rw zero-add (clocks_alone es (write_of d r v) k t (rw (write_gate d r v) (write_follows t d.gate f r v u.0)) u.1)
clocks_alone (Read r ∷ es) d k t f u = rw zero-add (clocks_alone es (read_of d r).device k t (rw (read_gate d r) f) u.1)
clocks_alone (PortAcknowledge ∷ es) d k t f u = rw zero-add (clocks_alone es d k t f u.1)
clocks_alone (TimerAcknowledge ∷ es) d k t f u = rw zero-add (clocks_alone es d k t f u.1)
clocks_alone (Pin n level ∷ es) d k t f u =
    rw zero-add (clocks_alone es (pin_of d n level) k t (rw (pin_gate d n level) (pin_follows t d.gate f n level u.0)) u.1)
clocks_alone (Clocks n ∷ es) d k t f u =
    let g = d.gate in
    rw (
      split true n (needs_of es).clocks k t,
      opens n k d,
      same_openings (tin_level g.c) n k g.timer f.runs,
      alike true n k g.timer t f.alike,
    )
    (ap (λ (l : List ℕ). openings true n k t ++ l)
    (clocks_alone es (device.after n d) (k + n) (after true n t) (rw (halves n d) (clocks_follow t g f n)) (rw (after_keeps true n t).tcr u.1)))
clocks_alone (Reset ∷ es) d k t f u = absurd u.0
