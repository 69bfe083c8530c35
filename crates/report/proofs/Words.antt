-- What stands before the system's code, as `split_once` finds it.
use Rattle.std.proofs.Common.{◌≡◌, ℕ, suc, zero, ◌≤◌, ◌<◌, List, [], ◌∷◌, ◌++◌, true, false, refl, sym, ap, length, take, drop, arith}
use Rattle.std.proofs.Math.Dec.{eqb}
use Rattle.std.proofs.lemmas.Str.Pattern.{starts_text}
use Rattle.std.specs.Str.Pattern.{LacksTextAt}
use Rattle.std.specs.List.{starts_with}
use Rattle.report.specs.Streams.{code_begins, words_of}

begins : (s rest : List ℕ) → s ≡ code_begins ++ rest → starts_with eqb s code_begins ≡ true
begins s rest e = rw e refl

-- no code: all are words
pub all_words : (s : List ℕ) → ((i : ℕ) → i ≤ length s → LacksTextAt code_begins s i) → words_of s ≡ s
unfolding words_of
all_words [] lacks = refl
all_words (x ∷ xs) lacks =
    rw (sym (starts_text false code_begins (x ∷ xs) (lacks 0 (omega arith))))
    (ap (λ (t : List ℕ). x ∷ t) (all_words xs (λ i le. lacks (suc i) (omega (arith, le)))))

-- the first code: the words are what stands before it
pub words_before : (s : List ℕ) (i : ℕ) (rest : List ℕ) → ((k : ℕ) → k < i → LacksTextAt code_begins s k)
    → drop i s ≡ code_begins ++ rest → words_of s ≡ take i s
unfolding words_of
words_before [] zero rest lacks at = refl
words_before [] (suc i) rest lacks at = refl
words_before (x ∷ xs) zero rest lacks at = rw (begins (x ∷ xs) rest at) refl
words_before (x ∷ xs) (suc i) rest lacks at =
    rw (sym (starts_text false code_begins (x ∷ xs) (lacks 0 (omega arith))))
    (ap (λ (t : List ℕ). x ∷ t) (words_before xs i rest (λ k lt. lacks (suc k) (omega (arith, lt))) at))
