-- `last_bits` meets its contract: how many bits remain is exact, of any list.
use Rattle.std.proofs.Common.{◌≡◌, ℕ, ◌+◌, ◌*◌, ◌/◌, ◌%◌, ◌^◌, ◌<◌, ◌≤◌, List, length, ap, ◌∙◌, arith}
use lib.Bits.{bit_and}
use Rattle.wire.specs.Field.{bits_in, field_at}
use Rattle.wire.specs.Next.{kind_at, size_of}
use Rattle.wire.specs.Word.{kind_in, no_word, bits_from, bits_of, kind_is, cut, past_end, whole}
use Rattle.wire.proofs.Window.{word_window}
use Rattle.wire.proofs.word.last_bits.Goals as goal

-- what the code found: the bytes, the event's size and how many bits remain
module _ (s : List ℕ) (at four size left : ℕ) (past : length s ≤ at / 8 + 3) (within : at / 8 < length s) (e : four ≡ field_at s (at / 8 * 8) 32)
    (sized : size ≡ size_of (kind_in (four * 2 ^ (bit_and at 7) % 2 ^ 32))) (fits : left < 2 ^ 64) (rest : (left + at) % 2 ^ 64 ≡ length s * 2 ^ 3 % 2 ^ 64) where
  read : four * 2 ^ (bit_and at 7) % 2 ^ 32 ≡ bits_from s at
  read = word_window s at four e

  needs_so_many : size ≡ size_of (kind_at s at)
  needs_so_many = sized ∙ ap (λ (w : ℕ). size_of (kind_in w)) read ∙ ap size_of (kind_is s at)

  remaining : at + left ≡ bits_in s
  remaining = omega arith

  lacking : left < size → no_word ≡ bits_of s at
  lacking l = cut s at (omega (arith, remaining, needs_so_many))

  there : size ≤ left → four * 2 ^ (bit_and at 7) % 2 ^ 32 ≡ bits_of s at
  there l = read ∙ whole s at (omega (arith, remaining, needs_so_many))

pub returns-then-list-i : goal.returns-then-list-i
returns-then-list-i c = past_end c.args.list.now c.args.at c.if-list-i.true

pub returns-then-wrapping_sub_usize-size_of : goal.returns-then-wrapping_sub_usize-size_of
returns-then-wrapping_sub_usize-size_of c =
    lacking c.args.list.now c.args.at _ _ _ c.requires c.if-list-i.false c.four_bytes.ensures c.size_of.ensures.0 (omega arith)
    c.wrapping_sub_usize.ensures.value c.if-wrapping_sub_usize-size_of.true

pub returns : goal.returns
returns c =
    there c.args.list.now c.args.at _ _ _ c.requires c.if-list-i.false c.four_bytes.ensures c.size_of.ensures.0 (omega arith)
    c.wrapping_sub_usize.ensures.value c.if-wrapping_sub_usize-size_of.false
