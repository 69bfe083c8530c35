use Rattle.clocks.proofs.Loop.{quiet_jump, noted_jump}
use Rattle.clocks.proofs.stepping.Goals as goal

pub loop-left-preserved-then-next : goal.loop-left-preserved-then-next
loop-left-preserved-then-next c =
    noted_jump _ _ _ _ _ _ _ _ _ _ _ c.loop-left.invariant c.loop-left-test.true c.played-next.result c.played-next.ensures
    c.if-next.true _ c.note.ensures

pub loop-left-preserved : goal.loop-left-preserved
loop-left-preserved c =
    quiet_jump _ _ _ _ _ _ _ _ _ _ _ c.loop-left.invariant c.loop-left-test.true c.played-next.result c.played-next.ensures
    c.if-next.false
