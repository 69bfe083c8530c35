-- `field` meets its contract: the shift and the mask take the field out of three bytes.
use Rattle.std.proofs.Common.{◌≡◌, ℕ, ◌-◌, ◌*◌, ◌/◌, ◌%◌, ◌^◌, ◌<◌, ◌≤◌, List, sym, ap, ◌∙◌, subst, ap₂, one-mul, arith, shl_exact}
use lib.Bits.{bit_and, and_mask}
use Rattle.wire.specs.Field.{field_at, field_lt}
use Rattle.wire.specs.Splitting.{first_bits}
use Rattle.wire.proofs.Window.{field_window}
use Rattle.wire.proofs.field.field.Goals as goal

-- a power that fits is not cut by the shift
ones : (w : ℕ) → w ≤ 16 → (1 * 2 ^ w) % 2 ^ 32 ≡ 2 ^ w
ones w h = shl_exact 1 w 32 (omega arith) (omega arith) ∙ one-mul (2 ^ w)

-- what the code computes of the window
masked : (s : List ℕ) (at w bytes : ℕ) → w ≤ 16 → bytes ≡ field_at s (at / 8 * 8) 24
    → bit_and (bytes / 2 ^ (24 - bit_and at 7 - w)) ((1 * 2 ^ w) % 2 ^ 32 - 1) ≡ field_at s at w
masked s at w bytes h e =
    ap₂ (λ (x y : ℕ). bit_and (bytes / 2 ^ (24 - x - w)) (y - 1)) (and_mask at 3) (ones w h)
    ∙ and_mask _ w
    ∙ ap (λ (x : ℕ). x / 2 ^ (24 - at % 8 - w) % 2 ^ w) e
    ∙ field_window s 24 at w (omega arith)

pub returns : goal.returns
returns c =
    let a = c.args in
    let s = a.list.now in
    let three = ap (λ (x : ℕ). x / 2 ^ 8) c.four_bytes-three.ensures ∙ first_bits s (a.at / 8 * 8) 24 8 in
    let e = masked s a.at a.width _ c.requires three in
    (e, subst (λ (x : ℕ). x < 2 ^ a.width) (sym e) (field_lt s a.at a.width))
