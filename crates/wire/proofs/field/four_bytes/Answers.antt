-- `four_bytes` meets its contract.
use Rattle.std.proofs.Common.{[], ◌∷◌, ◌∙◌, arith}
use Rattle.std.specs.Int.{w32, from_be_bytes}
use Rattle.wire.proofs.Window.{four_bytes}
use Rattle.wire.proofs.field.four_bytes.Goals as goal

pub returns : goal.returns
returns c =
    c.from_be_bytes.ensures
    ∙ (λ i. from_be_bytes w32 (c.byte_at.ensures i ∷ c.byte_at-2.ensures i ∷ c.byte_at-3.ensures i ∷ c.byte_at-4.ensures i ∷ []))
    ∙ four_bytes c.args.list.now (λ i. omega (arith, c.type_inv.list i)) c.args.i
