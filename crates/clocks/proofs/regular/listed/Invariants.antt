use Rattle.clocks.proofs.Listing.{Listing}
use Rattle.clocks.proofs.regular.listed.Given as goal

abbrev pub invariant-loop-place : goal.invariant-loop-place
invariant-loop-place l = Listing l.period l.first l.many l.fn.row l.at l.row l.place l.number
