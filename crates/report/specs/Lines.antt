-- The bytes that are printed (01, 'Lists to try'): `R` refusal place, `G` and clock per opening, `C` and all clocks, each a line.
use Rattle.std.specs.Prelude.{ℕ, ◌/◌, List, [], ◌∷◌, ◌++◌, codes, decimal, Option, Some, None}
use Rattle.std.specs.List.{flat_map}
use Rattle.report.specs.Digit.{digit_of}

-- 'two uppercase hex digits' of a byte
unfoldable pub two_digits : ℕ → List ℕ
two_digits byte = digit_of (byte / 16) ∷ digit_of byte ∷ []

-- 'two uppercase hex digits or `--`' of an answer
unfoldable pub answer_text : Option ℕ → List ℕ
answer_text (Some byte) = two_digits byte
answer_text None = codes "--"

-- '`R` refusal place'
unfoldable pub refusal_line : ℕ → ℕ → List ℕ
refusal_line number place = codes "R " ++ (decimal number ++ (codes " " ++ (decimal place ++ codes "\n")))

-- '`G` and clock' of an opening
unfoldable pub opening_line : ℕ → List ℕ
opening_line clock = codes "G " ++ (decimal clock ++ codes "\n")

-- '`G` and clock per opening'
unfoldable pub opening_lines : List ℕ → List ℕ
opening_lines clocks = flat_map opening_line clocks

-- '`C` and all clocks'
unfoldable pub clocks_line : ℕ → List ℕ
clocks_line n = codes "C " ++ (decimal n ++ codes "\n")
