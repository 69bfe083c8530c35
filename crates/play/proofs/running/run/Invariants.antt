-- What each turn of `run` keeps: what is left of the list, played from here, ends as the whole list from the start.
use Rattle.std.proofs.Common.{◌≡◌}
use Rattle.play.proofs.Leaves.{tally}
use Rattle.play.proofs.Reached.{Reached}
use Rattle.play.proofs.running.run.Given as goal

abbrev pub invariant-loop-event : goal.invariant-loop-event
invariant-loop-event l =
    (l.event-iterator.list.now ≡ l.list)
    × Reached l.list l.fn.answers l.fn.row l.fn.given l.answers l.row (tally l.device l.answered l.opened l.clocks) l.event-iterator.at
