-- `clocks_ahead` meets its contract: each of the ways of working clocks out ahead leaves what they do.
use Rattle.std.proofs.Common.{List, ℕ, map, sym, ap, ◌∙◌}
use Rattle.std.proofs.lemmas.List.Edits.{sets}
use Rattle.clocks.specs.Clocks.{clock_number}
use Rattle.gate.specs.Ahead.{rise_clocks}
use Rattle.play.proofs.ahead.clocks_ahead.Goals as goal

pub returns-then-rises : goal.returns-then-rises
returns-then-rises c =
    let a = c.args in
    let r = rise_clocks a.n a.passed.0 a.gate (sym c.rises.ensures ∙ c.if-rises.true) in
    record {
      counted = c.risen.ensures.counted ∙ sym r.0;
      numbered = c.risen.ensures.numbered ∙ ap (λ (l : List ℕ). sets a.row.now a.at (map clock_number l)) (sym r.1);
    }
