-- The head of an event: its first 16 bits, which hold its kind, then its register or pin, then its value or level. Clocks alone reach further.
use Rattle.std.specs.Prelude.{◌≡◌, ℕ, ◌+◌, ◌/◌, ◌%◌, ◌^◌, List}
use Rattle.std.proofs.Common.{ap, ◌∙◌, arith}
use Rattle.wire.specs.Field.{field_at}
use Rattle.wire.specs.Splitting.{first_bits, last_bits, inner_bits}
use Rattle.wire.specs.Next.{kind_bits, register_bits, value_bits, pin_bits, level_bits, kind_at, register_at, value_at}

abbrev pub head_at : List ℕ → ℕ → ℕ
head_at s at = field_at s at 16

-- the value follows a register, and the level a pin
past_register : (at : ℕ) → at + 8 ≡ at + kind_bits + register_bits
past_register at = omega arith

module _ (s : List ℕ) (at : ℕ) {head : ℕ} (read : head ≡ head_at s at) where
  pub head_kind : head / 2 ^ 13 ≡ kind_at s at
  head_kind = ap (λ (x : ℕ). x / 2 ^ 13) read ∙ first_bits s at kind_bits 13

  -- a pin stands where a register does
  pub head_register : head / 2 ^ 8 % 2 ^ 5 ≡ register_at s at
  head_register = ap (λ (x : ℕ). x / 2 ^ 8 % 2 ^ 5) read ∙ inner_bits s at kind_bits register_bits 8

  pub head_value : head % 2 ^ 8 ≡ value_at s at
  head_value = ap (λ (x : ℕ). x % 2 ^ 8) read ∙ last_bits s at 8 value_bits ∙ ap (λ (p : ℕ). field_at s p value_bits) (past_register at)

  pub head_level : head / 2 ^ 7 % 2 ≡ field_at s (at + kind_bits + pin_bits) level_bits
  head_level = ap (λ (x : ℕ). x / 2 ^ 7 % 2) read ∙ inner_bits s at 8 level_bits 7 ∙ ap (λ (p : ℕ). field_at s p level_bits) (past_register at)
