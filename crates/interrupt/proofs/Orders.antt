-- The order of the statuses as PSRR bits 2-0 make it, held to the eight rows that 01 prints (02, R-5; 01, 'Interrupts'; 000, table 4.2).
use Rattle.std.proofs.Common.{◌≡◌, ℕ, ◌+◌, ◌<◌, eqb, true, List, [], ◌∷◌, ◌++◌, refl, Bool, eqb-true, if◌then◌else◌}
use mathlib.Core.Bool.{beq}
use denote.Enum.Bare.{sameb, same_true}
use Rattle.bits.specs.Field.{bit_of}
use Rattle.bits.specs.Trying.{below, any_below, any_below_of, ◌and◌}
use Rattle.interrupt.specs.Priority.{orders, ranked_of}
use Rattle.interrupt.specs.contracts.Status.{the_type}
use Rattle.interrupt.specs.declared.Status.{Status}
use Rattle.interrupt.specs.declared.Status.TheVariants.{H1S, H2S, H3S, H4S}

-- two statuses are one
abbrev same : Status → Status → Bool
same a b = sameb the_type a b

-- The status at a place: 0 and 1 are the pair's that goes first, 2 and 3 the other's. Bit 2 says which pair goes first, bit 0 turns H1S and H2S
-- round, bit 1 H3S and H4S.
abbrev pub rank_by_bits : ℕ → ℕ → Status
rank_by_bits row place =
    if beq (bit_of place 1) (bit_of row 2)
    then (if beq (bit_of place 0) (bit_of row 0) then H1S else H2S)
    else (if beq (bit_of place 0) (bit_of row 1) then H3S else H4S)

-- the order that the bits make, highest first
abbrev pub row_by_bits : ℕ → List Status
row_by_bits row = rank_by_bits row 0 ∷ rank_by_bits row 1 ∷ rank_by_bits row 2 ∷ rank_by_bits row 3 ∷ []

-- The bits make exactly the eight orders that are printed.
pub rows_by_bits : orders ≡ row_by_bits 0 ++ row_by_bits 1 ++ row_by_bits 2 ++ row_by_bits 3 ++ row_by_bits 4 ++ row_by_bits 5 ++ row_by_bits 6 ++ row_by_bits 7
unfolding orders bit_of
rows_by_bits = refl

-- The bits say which status stands at a place of an order.
pub rank_by_bits_lem : (row place : ℕ) → row < 8 → place < 4 → ranked_of row place ≡ rank_by_bits row place
unfolding ranked_of orders bit_of
rank_by_bits_lem row place h k =
    same_true the_type tt _ _ ((any_below_of 8 and any_below_of 4).any (λ x. same (ranked_of x.0 x.1) (rank_by_bits x.0 x.1)) refl (row, place) (h, k))

-- 1 where a status stands at a place of an order, else 0
abbrev pub stands_at : ℕ → Status → ℕ → ℕ
stands_at row status place = if same (ranked_of row place) status then 1 else 0

-- how many places of an order have a status
abbrev pub times_in : ℕ → Status → ℕ
times_in row status = stands_at row status 0 + stands_at row status 1 + stands_at row status 2 + stands_at row status 3

tried : (status : Status) → below 8 (λ row. eqb (times_in row status) 1) ≡ true
unfolding ranked_of orders
tried H1S = refl
tried H2S = refl
tried H3S = refl
tried H4S = refl

-- Each order has each of the four statuses once.
pub each_once : (row : ℕ) (status : Status) → row < 8 → times_in row status ≡ 1
each_once row status h = eqb-true _ _ (any_below 8 (λ x. eqb (times_in x status) 1) (tried status) row h)
