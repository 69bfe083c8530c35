-- `next` meets its contract: the word tells the event that stands there, and each takes the reading on.
use Rattle.std.proofs.Common.{◌≡◌, ◌+◌, sym, subst, refl, arith}
use Rattle.wire.specs.Next.{next_at, Play, too_long}
use Rattle.wire.specs.Finds.{moves}
use Rattle.wire.specs.Word.{NoEvent, event_in, plays}
use Rattle.wire.proofs.events.EventsIterator.next.Goals as goal
use Rattle.wire.proofs.events.EventsIterator.next.Goals.{After-size_of}

pub returns-then-self-gt-MOST_BYTES-clause-steps : goal.returns-then-self-gt-MOST_BYTES-clause-steps
returns-then-self-gt-MOST_BYTES-clause-steps c =
    let r = c.args.self.now in
    (refl, subst NoEvent (sym (too_long r.list.now r.at c.if-self-gt-MOST_BYTES.true)) tt)

module _ (n : After-size_of) where
  read : next_at n.args.self.now.list.now n.args.self.now.at ≡ Play (event_in n.word_at-word.result) (n.args.self.now.at + n.size_of.result)
  read =
      let r = n.args.self.now in
      plays r.list.now r.at n.word_at-word.result (n.word_at-word.ensures.tells n.if-self-gt-MOST_BYTES.false) n.if-kind-ge-END.false _ _ refl n.size_of.ensures.0

pub overflow_add-self : goal.overflow_add-self
overflow_add-self c = let r = c.args.self.now in let m = moves r.list.now r.at _ _ (read c) in omega (arith, m.within, m.short)

pub returns-clause-goes : goal.returns-clause-goes
returns-clause-goes c =
    let r = c.args.self.now in
    let m = moves r.list.now r.at _ _ (read (goal.at.returns-clause-goes c).After-size_of) in
    record { on = λ _. (tt, tt, omega (arith, m.forward, m.within)); keeps = tt; rests = λ _. tt }
