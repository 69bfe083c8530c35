-- `check` meets its contract: at each turn what is left of the list, summed from here, comes to what the whole list does.
use Rattle.std.proofs.Common.{ℕ, add-zero, refl, sym, subst, ◌≡◌, ◌+◌, ap, ◌∙◌, arith}
use Rattle.std.proofs.Math.Logic.{⊎_elim}
use Rattle.event.specs.declared.Event.{Event}
use Rattle.wire.specs.Next.{Play}
use Rattle.wire.specs.Needs.{answers_in, clocks_in}
use Rattle.wire.specs.List.{rest}
use Rattle.wire.specs.Events.{ending, event_stands, end_stands}
use Rattle.std.proofs.lemmas.Result.{err_from_is_err_and}
use Rattle.survey.proofs.Sums.{Summed, further, whole, refusing}
use Rattle.survey.proofs.checking.check.Goals as goal
use Rattle.survey.proofs.checking.check.Goals.{In-Some, After-end}

-- where an event was given, and is matched next: one more is summed
module _ (n : In-Some) where
  abbrev Going : ℕ → ℕ → Type 0
  Going a k = (n.next.new.self.list.now ≡ n.args.list.now) × Summed n.args.list.now a k n.next.new.self.at

  summed : {e : Event} → n.in-Some.event ≡ e → Going (n.loop-event.sums.answers + answers_in e) (n.loop-event.sums.clocks + clocks_in e)
  summed {e} is =
      let l = n.loop-event in
      let given = event_stands n.args.list.now l.events n.next.new.self l.invariant.0 n.in-Some.ensures.steps in
      (given.0, further n.args.list.now l.sums.answers l.sums.clocks l.events.at l.invariant.1 e n.next.new.self.at (given.1 ∙ ap (λ (x : Event). Play x n.next.new.self.at) is))

  answered : {e : Event} → n.in-Some.event ≡ e → clocks_in e ≡ 0 → Going (n.loop-event.sums.answers + answers_in e) n.loop-event.sums.clocks
  answered {e} is none = subst (Going (n.loop-event.sums.answers + answers_in e)) (ap (λ (k : ℕ). n.loop-event.sums.clocks + k) none ∙ add-zero n.loop-event.sums.clocks) (summed is)

  unanswered : {e : Event} {k : ℕ} → n.in-Some.event ≡ e → answers_in e ≡ 0 → k ≡ n.loop-event.sums.clocks + clocks_in e → Going n.loop-event.sums.answers k
  unanswered {e} {k} is none more =
      subst (λ (a : ℕ). Going a k) (ap (λ (a : ℕ). n.loop-event.sums.answers + a) none ∙ add-zero n.loop-event.sums.answers) (subst (Going (n.loop-event.sums.answers + answers_in e)) (sym more) (summed is))

pub loop-event-preserved-in-Read : goal.loop-event-preserved-in-Read
loop-event-preserved-in-Read c = answered (goal.at.loop-event-preserved-in-Read c).In-Some c.in-Read.is refl

pub loop-event-preserved-in-PortAcknowledge : goal.loop-event-preserved-in-PortAcknowledge
loop-event-preserved-in-PortAcknowledge c = answered (goal.at.loop-event-preserved-in-PortAcknowledge c).In-Some c.in-PortAcknowledge.is refl

pub loop-event-preserved-in-TimerAcknowledge : goal.loop-event-preserved-in-TimerAcknowledge
loop-event-preserved-in-TimerAcknowledge c = answered (goal.at.loop-event-preserved-in-TimerAcknowledge c).In-Some c.in-TimerAcknowledge.is refl

pub loop-event-preserved-in-Clocks : goal.loop-event-preserved-in-Clocks
loop-event-preserved-in-Clocks c = unanswered (goal.at.loop-event-preserved-in-Clocks c).In-Some c.in-Clocks.is refl refl

pub overflow_add-sums-in-Clocks : goal.overflow_add-sums-in-Clocks
overflow_add-sums-in-Clocks c = let x = (unanswered (goal.at.overflow_add-sums-in-Clocks c).In-Some c.in-Clocks.is refl refl).1 in omega (arith, x.few, x.clocks)

pub loop-event-preserved : goal.loop-event-preserved
loop-event-preserved c =
    let n = (goal.at.loop-event-preserved c).In-Some in
    ⊎_elim (λ w. unanswered n w.2 refl (sym (add-zero _))) (λ a. ⊎_elim (λ p. unanswered n p.2 refl (sym (add-zero _))) (λ e. unanswered n e refl (sym (add-zero _))) a) c.in-Write.is

-- where no event was
module _ (n : After-end) where
  ends : rest n.args.list.now n.loop-event.events.at ≡ ending n.end.result
  ends = let l = n.loop-event in end_stands n.args.list.now l.events n.next.new.self l.invariant.0 n.in_default.ensures.steps n.end.result n.end.ensures

pub returns-in_err-end : goal.returns-in_err-end
returns-in_err-end c =
    let l = c.loop-event in
    let p = err_from_is_err_and c.from_residual.result c.from_residual.ensures.1 in
    rw (p.1, p.2) (refusing c.args.list.now l.sums.answers l.sums.clocks l.events.at l.invariant.1 _ _ (ends (goal.at.returns-in_err-end c).After-end ∙ ap ending c.in_err-end.was))

pub returns : goal.returns
returns c =
    let l = c.loop-event in
    whole c.args.list.now l.sums.answers l.sums.clocks l.events.at l.invariant.1 (ends (goal.at.returns c).After-end ∙ ap ending c.in_ok-end.was)
