-- `word_at` meets its contract.
use Rattle.std.proofs.Common.{◌≡◌, ℕ, ◌/◌, ◌^◌, ◌≤◌, List, length, sym, ◌∙◌, subst}
use Rattle.wire.specs.Next.{most_bytes}
use Rattle.wire.specs.Word.{word_of, Tells, pin_bits_set, other, word_of_tells}
use Rattle.wire.proofs.word.word_at.Goals as goal

-- the word at a bit tells what stands there
told : (s : List ℕ) (at r : ℕ) → r ≡ word_of s at → length s ≤ most_bytes → Tells s at r
told s at r e short = subst (Tells s at) (sym e) (word_of_tells s at short)

pub returns-then-word-eq-NO_PIN-clause-word : goal.returns-then-word-eq-NO_PIN-clause-word
returns-then-word-eq-NO_PIN-clause-word c = pin_bits_set _ _ (subst (λ (w : ℕ). w / 2 ^ 26 ≡ 39) c.bits_at-word.ensures c.if-word-eq-NO_PIN.true)

pub returns-then-word-eq-NO_PIN-clause-tells : goal.returns-then-word-eq-NO_PIN-clause-tells
returns-then-word-eq-NO_PIN-clause-tells c = told _ _ _ (returns-then-word-eq-NO_PIN-clause-word c)

pub returns-clause-word : goal.returns-clause-word
returns-clause-word c =
    let e = c.bits_at-word.ensures in
    e ∙ other _ _ (λ top. c.if-word-eq-NO_PIN.false (subst (λ (w : ℕ). w / 2 ^ 26 ≡ 39) (sym e) top))

pub returns-clause-tells : goal.returns-clause-tells
returns-clause-tells c = told _ _ _ (returns-clause-word c)
