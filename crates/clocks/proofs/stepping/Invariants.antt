use Rattle.clocks.proofs.Loop.{Going}
use Rattle.clocks.proofs.stepping.Given as goal

abbrev pub invariant-loop-left : goal.invariant-loop-left
invariant-loop-left l =
    Going l.tin l.initial.timer l.initial.row l.initial.left l.initial.clock l.at l.timer l.row l.left l.clock l.used

abbrev pub decreases-loop-left : goal.decreases-loop-left
decreases-loop-left l = l.left
