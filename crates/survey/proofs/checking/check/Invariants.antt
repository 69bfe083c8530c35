-- What is left of the list, summed from here, comes to what the whole list does.
use Rattle.std.proofs.Common.{◌≡◌}
use Rattle.survey.proofs.Sums.{Summed}
use Rattle.survey.proofs.checking.check.Given as goal

abbrev pub invariant-loop-event : goal.invariant-loop-event
invariant-loop-event l = (l.events.list.now ≡ l.list) × Summed l.list l.sums.answers l.sums.clocks l.events.at
