-- Events as far as they concern the gate: what they leave of it and when they open it depends on the gate alone (01, 'Registers',
-- 'Timer').
use Rattle.std.specs.Prelude.{ℕ, ◌+◌, ◌-◌, ◌≤◌, ◌<◌, Bool, false, List, [], ◌≡◌, refl, eqb}
use Rattle.std.proofs.Common.{sym, ap, ◌∙◌, arith, ne_eqb, le-leb, lt-ltb}
use Rattle.bits.specs.Tables.{each, missed, find_changed}
use Rattle.event.specs.Map.{PGCR, PSRR, PADDR, PBDDR, PCDDR, PIVR, PACR, PBCR, PADR, PBDR, PCDR, PSR}
use Rattle.event.specs.Map.{TCR, TIVR, CPRH, number_bytes}
use Rattle.event.specs.declared.Event.{Event}
use Rattle.event.specs.declared.Event.TheVariants.{Write, Read, PortAcknowledge, TimerAcknowledge, Pin, Clocks, Reset}
use Rattle.gate.specs.Clocking.{gate_after, gate_openings}
use Rattle.gate.specs.Fresh.{reset_gate}
use Rattle.gate.specs.Pins.{gate_pinned}
use Rattle.gate.specs.Registers.{write_preload, gate_writes, gate_written}
use Rattle.gate.specs.declared.Gate.{Gate}
use Rattle.device.specs.Fresh.{reset_of}
use Rattle.device.specs.ManyClocks.{halves, opens}
use Rattle.device.specs.Pins.{pin_of}
use Rattle.device.specs.Registers.{read_of, writes, write_of}
use Rattle.device.specs.Events.{effect}
use Rattle.device.specs.declared.Device.{Device}

-- the gate after an event
abbrev pub followed : Gate → Event → Gate
followed g (Write r v) = gate_written g r v
followed g (Read r) = g
followed g PortAcknowledge = g
followed g TimerAcknowledge = g
followed g (Pin n level) = gate_pinned g n level
followed g (Clocks n) = gate_after n g
followed g Reset = reset_gate g

-- the numbers of its openings, k clocks having passed before
abbrev pub opens_by : Gate → ℕ → Event → List ℕ
opens_by g k (Write r v) = []
opens_by g k (Read r) = []
opens_by g k PortAcknowledge = []
opens_by g k TimerAcknowledge = []
opens_by g k (Pin n level) = []
opens_by g k (Clocks n) = gate_openings n k g
opens_by g k Reset = []

-- a preload byte of the gate
pub gate_preload : (g : Gate) (r v : ℕ) → CPRH ≤ r → r < CPRH + number_bytes → write_preload g (r - CPRH) v ≡ gate_written g r v
unfolding gate_written
gate_preload g r v low high =
    let other : (n : ℕ) → n < CPRH → eqb r n ≡ false = λ n l. ne_eqb r n (λ e. omega (arith, e)) in
    rw (other PCDDR (omega arith), other PCDR (omega arith), other TCR (omega arith), other TIVR (omega arith), le-leb CPRH r low, lt-ltb r (CPRH + number_bytes) high)

-- A write of the part is, for the gate, a write of the gate.
pub write_gate : (d : Device) (r v : ℕ) → (write_of d r v).gate ≡ gate_written d.gate r v
unfolding write_of gate_written
write_gate d r v =
    let aside : (n : ℕ) → d.gate ≡ gate_written d.gate n v → r ≡ n → d.gate ≡ gate_written d.gate r v = λ n f e. rw e f in
    each (λ (x : Device). x.gate ≡ gate_written d.gate r v) (writes d v) d r
    (λ m.
    let c = m.1.1.1.1 in
    let t = c.1.1.1.1.1.1.1.1 in
    sym (missed (gate_writes d.gate v) d.gate r (c.0, (c.1.1.1.1.1.1.0, (t.0, (t.1.0, (t.1.1.0, (t.1.1.1.0, tt))))))))
    (aside PGCR refl)
    (aside PSRR refl)
    (aside PADDR refl)
    (aside PBDDR refl)
    (λ e. rw e refl)
    (aside PIVR refl)
    (aside PACR refl)
    (aside PBCR refl)
    (aside PADR refl)
    (aside PBDR refl)
    (λ e. rw e refl)
    (aside PSR refl)
    (λ e. rw e refl)
    (λ e. rw e refl)
    (λ low high.
    gate_preload d.gate r v low high)
    (λ e. rw e refl)

-- No read changes the gate.
pub read_gate : (d : Device) (r : ℕ) → (read_of d r).device.gate ≡ d.gate
unfolding read_of
read_gate d r = refl

-- A level at a pin of the part is, for the gate, one at the gate.
pub pin_gate : (d : Device) (n : ℕ) (level : Bool) → (pin_of d n level).gate ≡ gate_pinned d.gate n level
unfolding pin_of
pin_gate d n level = refl

-- The gate of the part after an event is the gate after that event.
pub gate_follows : (d : Device) (k : ℕ) (e : Event) → (effect d k e).device.gate ≡ followed d.gate e
unfolding effect reset_of
gate_follows d k (Write r v) = write_gate d r v
gate_follows d k (Read r) = read_gate d r
gate_follows d k PortAcknowledge = refl
gate_follows d k TimerAcknowledge = refl
gate_follows d k (Pin n level) = pin_gate d n level
gate_follows d k (Clocks n) = ap (λ (x : Device). x.gate) (halves n d)
gate_follows d k Reset = refl

-- What an event leaves of the ports and pairs depends on them alone.
pub parallel_follows : (c d : Device) (k : ℕ) (e : Event) → c.parallel ≡ d.parallel → (effect c k e).device.parallel ≡ (effect d k e).device.parallel
unfolding effect write_of read_of reset_of pin_of
parallel_follows c d k (Write r v) same =
    find_changed (λ (x : Device). x.parallel) (writes c v) c r
    ∙ (rw same)
    ∙ sym (find_changed (λ (x : Device). x.parallel) (writes d v) d r)
parallel_follows c d k (Read r) same = rw same
parallel_follows c d k PortAcknowledge same = same
parallel_follows c d k TimerAcknowledge same = same
parallel_follows c d k (Pin n level) same = rw same
parallel_follows c d k (Clocks n) same = rw (halves n c, halves n d, same)
parallel_follows c d k Reset same = rw same

-- The part opens where its gate does.
pub gate_opens : (d : Device) (k : ℕ) (e : Event) → (effect d k e).openings ≡ opens_by d.gate k e
unfolding effect
gate_opens d k (Write r v) = refl
gate_opens d k (Read r) = refl
gate_opens d k PortAcknowledge = refl
gate_opens d k TimerAcknowledge = refl
gate_opens d k (Pin n level) = refl
gate_opens d k (Clocks n) = opens n k d
gate_opens d k Reset = refl
