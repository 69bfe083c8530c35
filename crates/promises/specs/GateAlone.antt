-- What can move an opening: the timer and TIN's level, and nothing else of the part (01, 'Timer').
use Rattle.std.specs.Prelude.{ℕ, ◌+◌, ◌-◌, Bool, List, [], ◌∷◌, ◌++◌, ◌≡◌, refl, eqb}
use Rattle.std.proofs.Math.Bool.{true, false}
use Rattle.std.proofs.Math.Path.{sym}
use Rattle.std.proofs.Common.{ap, ap₂, ◌∙◌, arith}
use borrow.Author.Tests.{le-leb, lt-ltb}
use Rattle.bits.specs.Tables.{each, missed}
use Rattle.event.specs.Map.{PC0, lines}
use Rattle.event.specs.declared.Event.{Event}
use Rattle.event.specs.declared.Event.TheVariants.{Write, Read, PortAcknowledge, TimerAcknowledge, Pin, Clocks, Reset}
use Rattle.port_c.specs.Fresh.{reset_c}
use Rattle.port_c.specs.Pins.{tin, tin_level}
use Rattle.gate.specs.Fresh.{reset_gate}
use Rattle.gate.specs.Pins.{tin_event, line_event, gate_pins, gate_pinned}
use Rattle.gate.specs.Registers.{write_tcr, write_preload, write_tsr, gate_writes, gate_written}
use Rattle.gate.specs.declared.Gate.{Gate}
use Rattle.device.specs.Events.{effect, made}
use Rattle.device.specs.Following.{followed, opens_by, gate_follows, gate_opens, gate_preload}
use Rattle.device.specs.declared.Device.{Device}
use Rattle.laws.specs.Bits.{with_bit_lem}
use Rattle.laws.specs.Touching.{Agree, tin_level_lem}
use Rattle.survey.specs.Needed.{event_clocks}

module _ (g h : Gate) (same : Agree g h) where
  -- a write leaves gates that agree so
  written : (r v : ℕ) → Agree (gate_written g r v) (gate_written h r v)
  unfolding gate_written write_tcr write_preload write_tsr tin_level
  written r v =
      let t = same.timer in
      each (λ (x : Gate). Agree x (gate_written h r v)) (gate_writes g v) g r
      (λ m. rw (missed (gate_writes h v) h r m) same)
      (λ e. rw e (record { timer = t; tin = same.tin }))
      (λ e. rw e (record { timer = t; tin = same.tin }))
      (λ e. rw e (record { timer = rw (t, same.tin); tin = same.tin }))
      (λ e. rw e (record { timer = rw t; tin = same.tin }))
      (λ low high. rw (← gate_preload h r v low high) (record { timer = rw t; tin = same.tin }))
      (λ e. rw e (record { timer = rw t; tin = same.tin }))

  -- so does a level at a line of port C
  tin_moves : (level : Bool) → (tin_event h level).timer ≡ (tin_event g level).timer
  unfolding tin_event
  tin_moves level = rw (same.timer, same.tin)

  line_agrees : (n : ℕ) (level : Bool) (here : Bool) → eqb n tin ≡ here → Agree (line_event g n level) (line_event h n level)
  unfolding line_event tin_level
  line_agrees n level true e = rw e (record { timer = tin_moves level; tin = tin_level_lem h level ∙ sym (tin_level_lem g level) })
  line_agrees n level false e =
      rw e
      (record {
        timer = same.timer;
        tin = (rw e at (with_bit_lem h.c.outside n tin level (omega arith))) ∙ same.tin ∙ sym (rw e at (with_bit_lem g.c.outside n tin level (omega arith)));
      })

  pin_agrees : (n : ℕ) (level : Bool) → Agree (gate_pinned g n level) (gate_pinned h n level)
  unfolding gate_pinned
  pin_agrees n level =
      each (λ (x : Gate). Agree x (gate_pinned h n level)) (gate_pins g level) g n
      (λ m. rw (missed (gate_pins h level) h n m) same)
      (λ a b. rw (le-leb PC0 n a, lt-ltb n (PC0 + lines) b) (line_agrees (n - PC0) level (eqb (n - PC0) tin) refl))

  -- an event leaves them so,
  then_agree : (e : Event) → Agree (followed g e) (followed h e)
  unfolding reset_gate reset_c tin_level
  then_agree (Write r v) = written r v
  then_agree (Read r) = same
  then_agree PortAcknowledge = same
  then_agree TimerAcknowledge = same
  then_agree (Pin n level) = pin_agrees n level
  then_agree (Clocks n) = record { timer = rw (same.timer, same.tin); tin = same.tin }
  then_agree Reset = record { timer = rw same.timer; tin = same.tin }

  -- and opens both at the same moments
  open_alike : (k : ℕ) (e : Event) → opens_by h k e ≡ opens_by g k e
  open_alike k (Write r v) = refl
  open_alike k (Read r) = refl
  open_alike k PortAcknowledge = refl
  open_alike k TimerAcknowledge = refl
  open_alike k (Pin n level) = refl
  open_alike k (Clocks n) = rw (same.timer, same.tin)
  open_alike k Reset = refl

-- Two devices that agree in the timer and in TIN's level open at the same moments, whatever events come and whatever their ports,
-- their other pins and their other registers hold. No handshake, no interrupt and no read moves an opening.
pub gate_alone : (es : List Event) (c d : Device) (k : ℕ) → Agree d.gate c.gate → (made c k es).openings ≡ (made d k es).openings
unfolding made
gate_alone [] c d k same = refl
gate_alone (e ∷ es) c d k same =
    let clocks : (effect c k e).clocks ≡ (effect d k e).clocks = event_clocks c k e ∙ sym (event_clocks d k e) in
    let next : Agree (effect d k e).device.gate (effect c k e).device.gate =
    rw (gate_follows c k e, gate_follows d k e) (then_agree d.gate c.gate same e) in
    ap₂ ◌++◌ (gate_opens c k e ∙ open_alike d.gate c.gate same k e ∙ sym (gate_opens d k e))
    (ap (λ (n : ℕ). (made (effect c k e).device n es).openings) clocks ∙ gate_alone es (effect c k e).device (effect d k e).device (effect d k e).clocks next)
