use Rattle.std.proofs.Common.{take}
use Rattle.std.specs.Io.KnownBytes.{Appends}
use Rattle.report.specs.Lines.{opening_lines}
use Rattle.report.proofs.openings.Given as goal

abbrev pub invariant-loop-clock : goal.invariant-loop-clock
invariant-loop-clock g l =
    Appends (g.W.Write.contents l.fn.out) (g.W.Write.contents l.out) (opening_lines (take l.clock-index l.clocks))
