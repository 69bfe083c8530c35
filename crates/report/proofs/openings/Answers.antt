use Rattle.std.proofs.Common.{ℕ, List, [], take, get_or}
use Rattle.std.proofs.KnownBytes.{Appends-nil, Appends-trans}
use Rattle.std.proofs.lemmas.List.{take_more, flat_map_more}
use Rattle.report.specs.Lines.{opening_line, opening_lines}
use Rattle.report.proofs.openings.Goals as goal

pub loop-clock-init : goal.loop-clock-init
unfolding opening_lines
loop-clock-init g c = Appends-nil _

pub loop-clock-preserved : goal.loop-clock-preserved
unfolding opening_lines
loop-clock-preserved g c =
    let clocks : List ℕ = c.args.clocks.now in
    let i = c.loop-clock.clock-index in
    rw (take_more clocks i 0 c.loop-clock-test.true, ← flat_map_more opening_line [] (take i clocks) (get_or clocks i 0))
    (Appends-trans _ _ _ _ _ c.loop-clock.invariant c.in_ok-opening.ensures)
