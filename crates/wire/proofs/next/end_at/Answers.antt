-- `end_at` meets its contract: what is cut short, or the end mark.
use Rattle.std.proofs.Common.{sym, ap, ◌∙◌, arith}
use Rattle.wire.specs.Next.{size_of, cut_short}
use Rattle.wire.specs.Word.{sized, end_told}
use Rattle.wire.proofs.next.end_at.Goals as goal

pub returns-then-at-gt-MOST_BITS : goal.returns-then-at-gt-MOST_BITS
returns-then-at-gt-MOST_BITS c = rw c.at.ensures (sym (cut_short c.args.list.now c.args.at c.requires.short (omega arith)))

pub returns-then-list-at : goal.returns-then-list-at
returns-then-list-at c =
    let needed = c.size_of.ensures.0 ∙ ap size_of c.field.ensures.0 in
    rw c.at-then-list-at.ensures (sym (cut_short c.args.list.now c.args.at c.requires.short (omega (arith, needed))))

pub close-requires : goal.close-requires
close-requires c = let least = (sized c.field.result).least in omega (arith, c.size_of.ensures.0, least)

pub returns : goal.returns
returns c =
    let needed = c.size_of.ensures.0 ∙ ap size_of c.field.ensures.0 in
    c.close.ensures ∙ sym (end_told c.args.list.now c.args.at c.requires.none (omega (arith, needed)) c.requires.short)
