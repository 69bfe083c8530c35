-- The digits that a format writes of a byte are those of the definitions.
use Rattle.std.proofs.Common.{◌≡◌, ℕ, ◌<◌, ◌^◌, ◌-◌, ◌/◌, ◌%◌, [], true, false, refl, arith, add_comm}
use Rattle.std.proofs.lemmas.Fmt.{hex_byte}
use Rattle.std.proofs.lemmas.Bool.Decides.{nat_tests}
use Rattle.std.specs.Fmt.{digits, digit_glyph, padded_integral, format_spec}
use Rattle.report.specs.Digit.{digit_of}
use Rattle.report.specs.Lines.{two_digits}

glyph : (n : ℕ) → n < 16 → digit_glyph true n ≡ digit_of n
unfolding digit_of
glyph n below = grind (arith, nat_tests)

of_remainder : (n : ℕ) → digit_glyph true (n % 16) ≡ digit_of n
unfolding digit_of
of_remainder n = rw (add_comm (n % 16) 48, add_comm (n % 16) 55) refl

-- what `{:02X}` writes of a byte
pub two_of_byte : (byte : ℕ) → byte < 256
    → padded_integral (format_spec 32 0 4 2 (2 ^ 64 - 1)) false [] (digits 16 true byte) ≡ two_digits byte
unfolding two_digits
two_of_byte byte below = rw (hex_byte true byte below, glyph (byte / 16) (omega arith), of_remainder byte) refl
