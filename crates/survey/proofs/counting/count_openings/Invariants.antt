-- What is left of the list, followed from here, comes to what the whole list does.
use Rattle.std.proofs.Common.{◌≡◌}
use Rattle.survey.proofs.FirstPass.{Counted}
use Rattle.survey.proofs.counting.count_openings.Given as goal

abbrev pub invariant-loop-event : goal.invariant-loop-event
invariant-loop-event l = (l.events.list.now ≡ l.list) × Counted l.list l.initial.gate l.gate l.opened l.events.at
