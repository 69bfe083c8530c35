-- The contract of each public function, as the check reads it, leaves one result.
use mathlib.Core.Path.{◌≡◌, sym, ◌∙◌}
use contract.Lifetimes.{Lfts}
use borrow.Fn.World.{ArgsD, ResD}
use borrow.Fn.Kinds.{ended_of}
use denote.Triple.Clauses.{AtExit}
use Rattle.survey.specs.Check.{told_by_one}
use Rattle.survey.specs.contracts.checking.check as check
use Rattle.survey.proofs.checking.check.Kinds as check-kinds
use Rattle.survey.proofs.checking.check.Reads as check-reads
use Rattle.survey.specs.contracts.counting.count_openings as count
use Rattle.survey.proofs.counting.count_openings.Kinds as count-kinds
use Rattle.survey.proofs.counting.count_openings.Reads as count-reads

pub one_check : (κs : Lfts 1) (a : ArgsD check.signature κs) (r r' : ResD check.signature κs)
    (x x' : AtExit (ended_of 1 check-kinds.ps check-kinds.r) κs)
    → check-reads.Post κs a r x → check-reads.Post κs a r' x' → r ≡ r'
one_check κs a r r' x x' p q = told_by_one r r' (p ∙ sym q)

pub one_count : (κs : Lfts 1) (a : ArgsD count.signature κs) (r r' : ResD count.signature κs)
    (x x' : AtExit (ended_of 1 count-kinds.ps count-kinds.r) κs)
    → count-reads.Post κs a r x → count-reads.Post κs a r' x' → r ≡ r'
one_count κs a r r' x x' p q = p ∙ sym q
