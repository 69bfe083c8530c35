-- `run` meets its contract: what each turn leaves is what its event does, and so what is left of the list, played from here, ends as the whole list.
use Rattle.std.proofs.Common.{◌≡◌, ℕ, ◌+◌, ◌<◌, List, not, refl, sym, ap, ◌∙◌, arith, rules}
use Rattle.std.specs.Borrow.{Bor}
use Rattle.event.specs.declared.Event.{Event}
use Rattle.event.specs.declared.Event.TheVariants.{Clocks}
use Rattle.port.specs.declared.Pair.TheVariants.{H12, H34}
use Rattle.wire.specs.Needs.{clocks_in}
use Rattle.wire.specs.Next.{Play, next_at}
use Rattle.clocks.specs.Clocks.{numbers}
use Rattle.parallel.specs.Clocking.{clocks_of}
use Rattle.device.specs.Events.{effect}
use Rattle.device.specs.Parts.{with_parallel}
use Rattle.play.proofs.Leaves as leaves
use Rattle.play.proofs.Leaves.{Tally, tally, Leaves}
use Rattle.play.proofs.Reached.{Reached, fits, further, finished}
use Rattle.play.proofs.running.run.Goals as goal
use Rattle.play.proofs.running.run.Goals.{In-Some, Joined-not-untimed, then-not-untimed, else-not-untimed, Joined-quiet, then-quiet, else-quiet+then-regular, else-quiet+else-regular}

-- where an event was read, and is matched next
module _ (n : In-Some) where
  abbrev s : List ℕ
  s = n.args.list.now

  abbrev at : ℕ
  at = n.loop-event.event-iterator.at

  abbrev after : ℕ
  after = n.next.new.self.at

  abbrev t : Tally
  t = let l = n.loop-event in tally l.device l.answered l.opened l.clocks

  same : n.next.new.self.list.now ≡ s
  same = ap (λ (list : Bor (List ℕ)). list.now) n.in-Some.ensures.steps.0 ∙ n.loop-event.invariant.0

  module _ {e : Event} (is : n.in-Some.event ≡ e) where
    read : next_at s at ≡ Play e after
    read = ap (λ (x : List ℕ). next_at x at) (sym n.loop-event.invariant.0) ∙ n.in-Some.ensures.steps.1 ∙ ap (λ (x : Event). Play x after) is

    fitting : t.clocks + clocks_in e < numbers
    fitting = let l = n.loop-event in fits s _ _ _ l.answers l.row t at l.invariant.1 e after read

    reached : {t' : Tally} {A' R' : List ℕ} → Leaves t n.loop-event.answers n.loop-event.row (effect t.device t.clocks e) t' A' R'
        → (n.next.new.self.list.now ≡ s) × Reached s n.args.answers.now n.args.row.now n.args.given A' R' t' after
    reached w = (same, (let l = n.loop-event in further s _ _ _ l.answers l.row t at l.invariant.1 e after read _ _ _ w))

pub loop-event-preserved-in-8 : goal.loop-event-preserved-in-8
loop-event-preserved-in-8 c =
    reached (goal.at.loop-event-preserved-in-8 c).In-Some c.in-Write.is
    (leaves.wrote_data H12 c.in-Write.register c.in-Write.value c.in-8.is c.write-device.ensures)

pub loop-event-preserved-in-9 : goal.loop-event-preserved-in-9
loop-event-preserved-in-9 c =
    reached (goal.at.loop-event-preserved-in-9 c).In-Some c.in-Write.is
    (leaves.wrote_data H34 c.in-Write.register c.in-Write.value c.in-9.is c.write-device-in-9.ensures)

pub loop-event-preserved-in_default : goal.loop-event-preserved-in_default
loop-event-preserved-in_default c =
    reached (goal.at.loop-event-preserved-in_default c).In-Some c.in-Write.is
    (leaves.wrote c.in-Write.register c.in-Write.value c.write-device-in_default.ensures)

pub loop-event-preserved-in-8-register : goal.loop-event-preserved-in-8-register
loop-event-preserved-in-8-register c =
    reached (goal.at.loop-event-preserved-in-8-register c).In-Some c.in-Read.is
    (leaves.read_data_of H12 c.in-Read.register c.in-8-register.is c.peek.ensures c.answer.ensures c.read-device.ensures)

pub loop-event-preserved-in-9-register : goal.loop-event-preserved-in-9-register
loop-event-preserved-in-9-register c =
    reached (goal.at.loop-event-preserved-in-9-register c).In-Some c.in-Read.is
    (leaves.read_data_of H34 c.in-Read.register c.in-9-register.is c.peek.ensures c.answer.ensures c.read-device-in-9-register.ensures)

pub loop-event-preserved-in_default-register : goal.loop-event-preserved-in_default-register
loop-event-preserved-in_default-register c =
    reached (goal.at.loop-event-preserved-in_default-register c).In-Some c.in-Read.is
    (leaves.peeked c.in-Read.register (λ e. search rules) (λ e. search rules) c.peek.ensures c.answer.ensures)

pub loop-event-preserved-in-PortAcknowledge : goal.loop-event-preserved-in-PortAcknowledge
loop-event-preserved-in-PortAcknowledge c =
    reached (goal.at.loop-event-preserved-in-PortAcknowledge c).In-Some c.in-PortAcknowledge.is
    (leaves.port_acknowledged c.port_acknowledge.ensures c.answer-in-PortAcknowledge.ensures)

pub loop-event-preserved-in-TimerAcknowledge : goal.loop-event-preserved-in-TimerAcknowledge
loop-event-preserved-in-TimerAcknowledge c =
    reached (goal.at.loop-event-preserved-in-TimerAcknowledge c).In-Some c.in-TimerAcknowledge.is
    (leaves.timer_acknowledged c.timer_acknowledge.ensures c.answer-in-TimerAcknowledge.ensures)

pub loop-event-preserved-then-pin-lt8 : goal.loop-event-preserved-then-pin-lt8
loop-event-preserved-then-pin-lt8 c =
    reached (goal.at.loop-event-preserved-then-pin-lt8 c).In-Some c.in-Pin.is
    (leaves.at_a c.in-Pin.pin c.in-Pin.level (omega arith) c.with_bit-device.ensures)

pub loop-event-preserved-then-pin-lt16 : goal.loop-event-preserved-then-pin-lt16
loop-event-preserved-then-pin-lt16 c =
    reached (goal.at.loop-event-preserved-then-pin-lt16 c).In-Some c.in-Pin.is
    (leaves.at_b c.in-Pin.pin c.in-Pin.level (omega arith) (omega arith) c.with_bit-device-in-8-to-15.ensures)

pub loop-event-preserved-then-pin-lt24 : goal.loop-event-preserved-then-pin-lt24
loop-event-preserved-then-pin-lt24 c =
    reached (goal.at.loop-event-preserved-then-pin-lt24 c).In-Some c.in-Pin.is
    (leaves.lined c.in-Pin.pin c.in-Pin.level (omega arith) (omega arith) c.line-device.ensures)

pub loop-event-preserved-in-24 : goal.loop-event-preserved-in-24
loop-event-preserved-in-24 c =
    reached (goal.at.loop-event-preserved-in-24 c).In-Some c.in-Pin.is
    (leaves.at_pair H12 c.in-Pin.pin c.in-Pin.level c.in-24.is c.first_pin-device.ensures)

pub loop-event-preserved-in-26 : goal.loop-event-preserved-in-26
loop-event-preserved-in-26 c =
    reached (goal.at.loop-event-preserved-in-26 c).In-Some c.in-Pin.is
    (leaves.at_pair H34 c.in-Pin.pin c.in-Pin.level c.in-26.is c.first_pin-device-in-26.ensures)

pub loop-event-preserved-in_default-pin : goal.loop-event-preserved-in_default-pin
loop-event-preserved-in_default-pin c =
    reached (goal.at.loop-event-preserved-in_default-pin c).In-Some c.in-Pin.is
    (leaves.pinned c.in-Pin.pin c.in-Pin.level (λ low high. search rules) c.pin-device.ensures)

-- both handshakes after clocks: stepped where a wait or a pulse runs, and else as they are
handshaken : (j : Joined-not-untimed)
    → (let d = j.loop-event.device in j.if-not-untimed.device ≡ with_parallel d (clocks_of j.in-Clocks.n d.parallel))
handshaken j =
    let d = j.loop-event.device in
    elim j.if-not-untimed.branch [
      | then-not-untimed w ↦ w.device-is ∙ ap (with_parallel d) w.clocks-device.ensures
      | else-not-untimed w ↦
          w.device-is ∙ ap (with_parallel d) (leaves.standing d.parallel _ j.untimed.ensures j.untimed-in-Clocks.ensures (ap not w.if-not-untimed.false))
    ]

-- the gate after clocks: in place where it is quiet or opens at regular clocks, and else by `clocks_ahead`
clocked_on : (j : Joined-quiet) → (let d = j.loop-event.device in j.if-not-untimed.device ≡ with_parallel d (clocks_of j.in-Clocks.n d.parallel))
    → j.loop-event.clocks + j.in-Clocks.n < numbers
    → (let l = j.loop-event in
    Leaves (tally l.device l.answered l.opened l.clocks) l.answers l.row (effect l.device l.clocks (Clocks j.in-Clocks.n))
    (tally j.if-quiet.device l.answered j.if-quiet.opened (l.clocks + j.in-Clocks.n)) l.answers j.if-quiet.row)
clocked_on j here fit =
    elim j.if-quiet.branch [
      | then-quiet w ↦
          rw (w.device-is, w.opened-is, w.row-is)
          (leaves.clocked_quietly j.in-Clocks.n fit here j.quiet.ensures w.if-quiet.true w.passed-device.ensures)
      | else-quiet+then-regular w ↦
          rw (w.device-is, w.opened-is, w.row-is)
          (leaves.clocked_regularly j.in-Clocks.n fit here w.regular.ensures w.if-regular.true w.gone_on-device.ensures w.opened-opened.ensures w.list.ensures)
      | else-quiet+else-regular w ↦
          let e = w.clocks_ahead-run.ensures in
          rw (w.device-is, w.opened-is, w.row-is) (leaves.clocked_through j.in-Clocks.n fit here (e.counted, e.numbered))
    ]

pub loop-event-preserved-in-Clocks : goal.loop-event-preserved-in-Clocks
loop-event-preserved-in-Clocks c =
    let p = goal.at.loop-event-preserved-in-Clocks c in
    reached p.In-Some c.in-Clocks.is (clocked_on p.Joined-quiet (handshaken p.Joined-not-untimed) (fitting p.In-Some c.in-Clocks.is))

pub loop-event-preserved : goal.loop-event-preserved
loop-event-preserved c =
    reached (goal.at.loop-event-preserved c).In-Some c.in-Reset.is
    (leaves.was_reset c.reset-device.ensures)

-- the numbers of a list's clocks fit, and each opens once at most
pub overflow_add-opened : goal.overflow_add-opened
overflow_add-opened c =
    let p = goal.at.overflow_add-opened c in
    let h = fitting p.In-Some c.in-Clocks.is in
    let w = leaves.clocked_regularly c.in-Clocks.n h (handshaken p.Joined-not-untimed) c.regular.ensures c.if-regular.true refl c.opened-opened.ensures c.list.ensures in
    let r = reached p.In-Some c.in-Clocks.is w in
    omega (arith, r.1.counted.opened, h)

pub overflow_add-opened-else-regular : goal.overflow_add-opened-else-regular
overflow_add-opened-else-regular c =
    let p = goal.at.overflow_add-opened-else-regular c in
    let h = fitting p.In-Some c.in-Clocks.is in
    let e = c.clocks_ahead-run.ensures in
    let r = reached p.In-Some c.in-Clocks.is (leaves.clocked_through c.in-Clocks.n h (handshaken p.Joined-not-untimed) (e.counted, e.numbered)) in
    omega (arith, r.1.counted.opened, h)

pub overflow_add-clocks : goal.overflow_add-clocks
overflow_add-clocks c = let h = fitting (goal.at.overflow_add-clocks c).In-Some c.in-Clocks.is in omega (arith, h)

pub returns : goal.returns
returns c =
    let l = c.loop-event in
    let list = l.invariant.0 in
    finished _ _ _ _ l.answers l.row (tally l.device l.answered l.opened l.clocks) l.event-iterator.at l.invariant.1
    (rw list at c.in-None.ensures.steps.1)
