-- `count_openings` meets its contract: at each turn what is left of the list, followed from here, comes to what the whole list does.
use Rattle.std.proofs.Common.{◌≡◌, ℕ, ◌+◌, List, length, sym, ap, subst, ◌∙◌, refl, arith, add-zero}
use Rattle.std.proofs.Math.Logic.{⊎_elim}
use Rattle.event.specs.declared.Event.{Event}
use Rattle.event.specs.declared.Event.TheVariants.{Clocks}
use Rattle.timer.specs.declared.Run.{Run}
use Rattle.gate.specs.Ahead.{quiet_clocks_lem, regular_clocks, moments_many}
use Rattle.gate.specs.declared.Gate.{Gate}
use Rattle.wire.specs.Events.{ending, event_stands, end_stands}
use Rattle.wire.specs.List.{rest, parsed}
use Rattle.wire.specs.Next.{Play}
use Rattle.device.specs.Following.{followed}
use Rattle.survey.specs.Following.{opens_at, from_start}
use Rattle.survey.specs.Watching.{watched_clocks}
use Rattle.survey.proofs.FirstPass.{Counted, further, whole, refusing}
use Rattle.survey.proofs.counting.count_openings.Goals as goal
use Rattle.survey.proofs.counting.count_openings.Goals.{In-Some, After-end}

-- where an event was given, and is matched next
module _ (n : In-Some) where
  abbrev s : List ℕ
  s = n.args.list.now

  abbrev gate : Gate
  gate = n.loop-event.gate

  abbrev after : ℕ
  after = n.next.new.self.at

  abbrev Going : Gate → ℕ → Type 0
  Going g m = (n.next.new.self.list.now ≡ s) × Counted s n.args.device.gate g m after

  module _ {e : Event} (is : n.in-Some.event ≡ e) where
    -- one event more, with so many openings
    opens : {g : Gate} {m : ℕ} → g ≡ followed gate e → m ≡ opens_at gate e → Going g (n.loop-event.opened + m)
    opens {g} {m} left more =
        let l = n.loop-event in
        let given = event_stands s l.events n.next.new.self l.invariant.0 n.in-Some.ensures.steps in
        (given.0, further s _ gate l.opened l.events.at l.invariant.1 e after (given.1 ∙ ap (λ (x : Event). Play x after) is) g (l.opened + m) left (ap (λ (x : ℕ). l.opened + x) more))

    -- with none
    quiet : {g : Gate} → g ≡ followed gate e → 0 ≡ opens_at gate e → Going g n.loop-event.opened
    quiet {g} left more = subst (Going g) (add-zero n.loop-event.opened) (opens left more)

pub loop-event-preserved-in-Write : goal.loop-event-preserved-in-Write
loop-event-preserved-in-Write c = quiet (goal.at.loop-event-preserved-in-Write c).In-Some c.in-Write.is c.write-gate.ensures refl

pub loop-event-preserved : goal.loop-event-preserved
loop-event-preserved c =
    let n = (goal.at.loop-event-preserved c).In-Some in
    ⊎_elim (λ r. quiet n r.1 refl refl) (λ a. ⊎_elim (λ e. quiet n e refl refl) (λ e. quiet n e refl refl) a) c.in-Read.is

pub loop-event-preserved-in-Pin : goal.loop-event-preserved-in-Pin
loop-event-preserved-in-Pin c = quiet (goal.at.loop-event-preserved-in-Pin c).In-Some c.in-Pin.is c.pin-gate.ensures refl

pub loop-event-preserved-then-quiet : goal.loop-event-preserved-then-quiet
loop-event-preserved-then-quiet c =
    let q = quiet_clocks_lem c.in-Clocks.n 0 c.loop-event.gate (sym c.quiet.ensures ∙ c.if-quiet.true) in
    quiet (goal.at.loop-event-preserved-then-quiet c).In-Some c.in-Clocks.is
    (c.passed-gate.ensures ∙ sym q.0) (ap length (sym q.1))

pub loop-event-preserved-then-regular : goal.loop-event-preserved-then-regular
loop-event-preserved-then-regular c =
    let r = regular_clocks c.in-Clocks.n 0 c.loop-event.gate (sym c.regular.ensures ∙ c.if-regular.true) in
    let many = c.opened-opened.ensures ∙ sym (moments_many c.in-Clocks.n 0 c.loop-event.gate) ∙ ap length (sym r.1) in
    opens (goal.at.loop-event-preserved-then-regular c).In-Some c.in-Clocks.is
    (c.gone_on-gate.ensures ∙ sym r.0) many

pub overflow_add-opened : goal.overflow_add-opened
overflow_add-opened c =
    let r = regular_clocks c.in-Clocks.n 0 c.loop-event.gate (sym c.regular.ensures ∙ c.if-regular.true) in
    let many = c.opened-opened.ensures ∙ sym (moments_many c.in-Clocks.n 0 c.loop-event.gate) ∙ ap length (sym r.1) in
    let n = (goal.at.overflow_add-opened c).In-Some in
    let so = opens n c.in-Clocks.is {g = followed c.loop-event.gate (Clocks c.in-Clocks.n)} refl many in
    omega (arith, so.1.most, so.1.few)

pub loop-event-preserved-in-Clocks : goal.loop-event-preserved-in-Clocks
unfolding watched_clocks
loop-event-preserved-in-Clocks c =
    opens (goal.at.loop-event-preserved-in-Clocks c).In-Some c.in-Clocks.is
    (ap (λ (w : Run Gate). w.part) c.watch_clocks-watched.ensures) (ap (λ (w : Run Gate). w.used) c.watch_clocks-watched.ensures)

pub overflow_add-opened-in-Clocks : goal.overflow_add-opened-in-Clocks
unfolding watched_clocks
overflow_add-opened-in-Clocks c =
    let n = (goal.at.overflow_add-opened-in-Clocks c).In-Some in
    let so = opens n c.in-Clocks.is (ap (λ (w : Run Gate). w.part) c.watch_clocks-watched.ensures)
    (ap (λ (w : Run Gate). w.used) c.watch_clocks-watched.ensures) in
    omega (arith, so.1.most, so.1.few)

pub loop-event-preserved-in-Reset : goal.loop-event-preserved-in-Reset
loop-event-preserved-in-Reset c = quiet (goal.at.loop-event-preserved-in-Reset c).In-Some c.in-Reset.is c.reset-gate.ensures refl

-- where no event was
module _ (n : After-end) where
  ends : rest n.args.list.now n.loop-event.events.at ≡ ending n.end.result
  ends = let l = n.loop-event in end_stands n.args.list.now l.events n.next.new.self l.invariant.0 n.in_default.ensures.steps n.end.result n.end.ensures

pub returns-then-is_ok : goal.returns-then-is_ok
returns-then-is_ok c =
    let a = c.args in
    let l = c.loop-event in
    whole a.list.now a.device.gate l.gate l.opened l.events.at l.invariant.1 c.end.result (ends (goal.at.returns-then-is_ok c).After-end) (sym c.is_ok.ensures.value ∙ c.if-is_ok.true)
    ∙ from_start a.device (parsed a.list.now)

pub returns-else-is_ok : goal.returns-else-is_ok
returns-else-is_ok c =
    let a = c.args in
    let l = c.loop-event in
    refusing a.list.now a.device.gate l.gate l.opened l.events.at l.invariant.1 c.end.result (ends (goal.at.returns-else-is_ok c).After-end) (sym c.is_ok.ensures.value ∙ c.if-is_ok.false)
    ∙ from_start a.device (parsed a.list.now)
