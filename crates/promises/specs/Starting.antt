-- How a run on CLK through the prescaler begins from halt (01, 'Timer').
use Rattle.std.specs.Prelude.{ℕ, not, ◌&&◌, ◌≡◌, eqb, ltb}
use Rattle.std.proofs.Math.Bool.{true}
use Rattle.std.proofs.Math.Path.{refl, ap}
use Rattle.std.proofs.Common.{◌∙◌, eqb-true}
use Rattle.std.specs.Int.Bits.{bit_and}
use Rattle.bits.specs.Choice.{and_left, and_right, either}
use Rattle.event.specs.declared.Event.{Event}
use Rattle.event.specs.declared.Event.TheVariants.{Write, Pin}
use Rattle.event.specs.Map.{TCR}
use Rattle.port_c.specs.Pins.{tin_level}
use Rattle.timer.specs.Control.{tcr_bits, source_of, runs_of, clock_steps}
use Rattle.timer.specs.Counting.{full}
use Rattle.timer.specs.Registers.{switched_of, controlled_of}
use Rattle.timer.specs.Validity.{rests_of}
use Rattle.timer.specs.declared.Timer.{Timer}
use Rattle.gate.specs.Pins.{line_event, gate_pinned}
use Rattle.gate.specs.Registers.{write_tcr, gate_written}
use Rattle.gate.specs.declared.Gate.{Gate}
use Rattle.device.specs.Registers.{write_of}
use Rattle.device.specs.Events.{Made, silently, effect}
use Rattle.device.specs.Validity.{valid_of}
use Rattle.device.specs.Following.{followed, pin_gate}
use Rattle.device.specs.declared.Device.{Device}
use Rattle.laws.specs.Stays.{Byte, valid_in}
use Rattle.laws.specs.Touching.{tin_pin}
use Rattle.promises.specs.Undisturbed.{tin_still}
use Rattle.promises.specs.Formula.{Halted, Starts, preload_of}
use Rattle.promises.specs.Kinds.{Starting, Running, Start, clk, gated, rise, gated_runs, controlled_tcr, gate_runs, three_kinds}

-- a timer halted as stated: prescaler 31, a load due
pub record Rests (t : Timer) : Type 0 where
  pub full : t.phase.prescaler.0 ≡ full
  pub due : t.phase.due ≡ true

rests : (d : Device) → valid_of d ≡ true → Halted d → Rests d.gate.timer
unfolding rests_of
rests d valid halted =
    let p = d.gate.timer.phase in
    let r = either (runs_of d.gate.timer.tcr (tin_level d.gate.c)) (rests_of p) (valid_in d valid).gate.halts halted in
    let turned = eqb p.prescaler.0 full in
    let d : (turned && not p.zds && p.square && p.due) ≡ true = and_left _ (not p.rise) r in
    let s : (turned && not p.zds && p.square) ≡ true = and_left _ p.due d in
    let z : (turned && not p.zds) ≡ true = and_left _ p.square s in
    record { full = eqb-true p.prescaler.0 full (and_left turned (not p.zds) z); due = and_right (turned && not p.zds && p.square) p.due d }

-- an event that moves nothing of a run and shows nothing
record Quiet (d : Device) (k : ℕ) (m : Made) : Type 0 where
  prescaler : m.device.gate.timer.phase.prescaler ≡ d.gate.timer.phase.prescaler
  due : m.device.gate.timer.phase.due ≡ d.gate.timer.phase.due
  preload : preload_of m.device ≡ preload_of d
  shows : m ≡ silently m.device k

module _ (d : Device) (k : ℕ) where
  tcr_quiet : (v : ℕ) → Running (followed d.gate (Write TCR v)) → Quiet d k (effect d k (Write TCR v))
  unfolding effect write_of gate_written write_tcr controlled_of switched_of clock_steps
  tcr_quiet v run =
      let tcr = bit_and v tcr_bits in
      let level = tin_level d.gate.c in
      let steps : clock_steps tcr level ≡ true = rw (controlled_tcr d.gate.timer v level) at run.runs in
      rw (and_left (runs_of tcr level) (ltb (source_of tcr) 2) steps) (record { prescaler = refl; due = refl; preload = refl; shows = refl })

  rise_quiet : clock_steps d.gate.timer.tcr true ≡ true → Quiet d k (effect d k (Pin tin_pin true))
  unfolding effect gate_pinned line_event
  rise_quiet runs =
      let timer = ap (λ (x : Gate). x.timer) (pin_gate d tin_pin true) ∙ tin_still d.gate true runs in
      record {
        prescaler = ap (λ (t : Timer). t.phase.prescaler) timer;
        due = ap (λ (t : Timer). t.phase.due) timer;
        preload = ap (λ (t : Timer). t.preload.0) timer;
        shows = refl;
      }

  kind_quiet : {e : Event} → Start d e → Running (followed d.gate e) → Quiet d k (effect d k e)
  kind_quiet (clk v on reload source) run = tcr_quiet v run
  kind_quiet (gated v on reload source high) run = tcr_quiet v run
  kind_quiet (rise on reload source) run = rise_quiet (gated_runs d.gate.timer.tcr true on source refl)

-- the run has started, with the preload as it was and nothing else to show for it
pub record Started (d : Device) (k : ℕ) (m : Made) : Type 0 where
  pub starts : Starts m.device
  pub preload : preload_of m.device ≡ preload_of d
  pub shows : m ≡ silently m.device k

-- Where the device is valid the run starts with prescaler 31 and a load due, with the preload as it was, and no answer, no opening and
-- no clock goes with the start.
pub start : (d : Device) (k : ℕ) (e : Event) → Byte e → valid_of d ≡ true → Starting d (effect d k e).device → Started d k (effect d k e)
start d k e byte valid s =
    let q = kind_quiet d k ((three_kinds d k e byte).0 s).1 (gate_runs d k e s) in
    let r = rests d valid s.halted in
    record {
      starts = record { runs = s.runs; reload = s.reload; full = rw q.prescaler r.full; due = rw q.due r.due };
      preload = q.preload;
      shows = q.shows;
    }
