-- A reader's bytes, cut to as many as are read.
use Rattle.std.proofs.Common.{◌≡◌, ◌∙◌, ℕ, List, [], ◌++◌, Option, None, Some, IfSome, refl, ap, subst, take, le_refl}
use Rattle.std.proofs.lemmas.List.{take-take}
use Rattle.std.specs.Option.{option_map}
use Rattle.std.specs.Io.Take.{take_limit, take_inner, take_remaining}
use Rattle.std.specs.declared.io.Take.{Take}

of_known : (known : Option (List ℕ)) (most limit : ℕ) (none read kept : List ℕ) → limit ≡ most → none ≡ []
    → IfSome (option_map (take limit) known) (λ xs. read ≡ none ++ xs) → kept ≡ take most read
    → IfSome known (λ all. kept ≡ take most all)
of_known None most limit none read kept l n r k = tt
of_known (Some all) most limit none read kept l n r k =
    k ∙ ap (take most) (r ∙ (rw (n, l) refl)) ∙ take-take most most all (le_refl most)

pub cut : {R : Type 0} (remaining : R → Option (List ℕ)) (input : R) (taken : Take R) (most : ℕ) (none read kept : List ℕ)
    → take_inner taken ≡ input → take_limit taken ≡ most → none ≡ []
    → IfSome (take_remaining remaining taken) (λ xs. read ≡ none ++ xs) → kept ≡ take most read
    → IfSome (remaining input) (λ all. kept ≡ take most all)
cut {R} remaining input taken most none read kept e l n r k =
    let cut_of : R → Type 0 = λ x. IfSome (remaining x) (λ all. kept ≡ take most all) in
    subst cut_of e (of_known (remaining (take_inner taken)) most (take_limit taken) none read kept l n r k)
