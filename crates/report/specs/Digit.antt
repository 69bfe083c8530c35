-- Hexadecimal digits in upper case.
use Rattle.std.specs.Prelude.{ℕ, ◌+◌, ◌%◌, ltb, if◌then◌else◌}

-- 0 to 9 are bytes 48 to 57, A to F 65 to 70
unfoldable pub digit_of : ℕ → ℕ
digit_of n = if ltb (n % 16) 10 then n % 16 + 48 else n % 16 + 55
