-- `bits_at` meets its contract.
use Rattle.std.proofs.Common.{◌/◌, ◌∙◌, arith}
use Rattle.wire.specs.Word.{four_there}
use Rattle.wire.proofs.Window.{four_bytes, word_window}
use Rattle.wire.proofs.word.bits_at.Goals as goal

pub returns-then-i-list : goal.returns-then-i-list
returns-then-i-list c =
    let s = c.args.list.now in
    let e = c.from_be_bytes-bytes.ensures ∙ four_bytes s (λ n. omega (arith, c.type_inv.list n)) (c.args.at / 8) in
    word_window s c.args.at c.from_be_bytes-bytes.result e ∙ four_there s c.args.at c.if-i-list.true
