-- The 28 pins as a table: what stands beside each (01, 'The event list': 'Pins 0-7 are PA, 8-15 PB, 16-23 PC, 24-27 H1-H4').
use Prim.Native.Nat.{ℕ, ◌-◌, ◌≤◌, ◌<◌, zero-le}
use Rattle.std.specs.Prelude.{◌≡◌, List, [], ◌∷◌}
use Rattle.std.proofs.Common.{◌∙◌, arith}
use Rattle.std.proofs.Math.Nat.{sub-zero}
use borrow.Author.Tests.{le-leb, lt-ltb, le-ltb}
use Rattle.event.specs.Map.{PA0, PB0, PC0, H1, H2, H3, H4, lines}
use Rattle.bits.specs.Tables.{Entry, at, from, find, Each, Missed, each, None, past}

-- what stands beside each pin of a port by its place there, and beside each handshake pin
abbrev pub pins : {A : Type 0} → (ℕ → A) → (ℕ → A) → (ℕ → A) → A → A → A → A → List (Entry A)
pins a b c h1 h2 h3 h4 = from PA0 lines a ∷ from PB0 lines b ∷ from PC0 lines c ∷ at H1 h1 ∷ at H2 h2 ∷ at H3 h3 ∷ at H4 h4 ∷ []

unfoldable pub pinned : {A : Type 0} → (ℕ → A) → (ℕ → A) → (ℕ → A) → A → A → A → A → A → ℕ → A
pinned a b c h1 h2 h3 h4 other pin = find (pins a b c h1 h2 h3 h4) other pin

-- a number past the handshake pins' is of a port, or no pin's
module _ {A : Type 0} (a b c : ℕ → A) (h1 h2 h3 h4 other : A) (r : ℕ) (rest : None (Unit {0}) r (pins a b c h1 h2 h3 h4)) where
  pub of_a : r < PB0 → pinned a b c h1 h2 h3 h4 other r ≡ a r
  unfolding pinned
  of_a h = past (pins a b c h1 h2 h3 h4) other r rest ∙ simp (le-leb PA0 r zero-le, lt-ltb r PB0 h, sub-zero)

  pub of_b : PB0 ≤ r → r < PC0 → pinned a b c h1 h2 h3 h4 other r ≡ b (r - PB0)
  unfolding pinned
  of_b h k = past (pins a b c h1 h2 h3 h4) other r rest ∙ simp (le-leb PA0 r zero-le, le-ltb r PB0 h, le-leb PB0 r h, lt-ltb r PC0 k)

  pub of_none : H1 ≤ r → pinned a b c h1 h2 h3 h4 other r ≡ other
  unfolding pinned
  of_none h =
      past (pins a b c h1 h2 h3 h4) other r rest
      ∙ simp (le-leb PA0 r zero-le, le-ltb r PB0 (omega arith), le-leb PB0 r (omega arith), le-ltb r PC0 (omega arith), le-leb PC0 r (omega arith), le-ltb r H1 h)

-- what stands beside a pin of port C
pub at_c : {A : Type 0} (a b c : ℕ → A) (h1 h2 h3 h4 other : A) (r : ℕ) → PC0 ≤ r → r < H1 → pinned a b c h1 h2 h3 h4 other r ≡ c (r - PC0)
unfolding pinned
at_c a b c h1 h2 h3 h4 other r h k =
    simp (le-leb PA0 r zero-le, le-ltb r PB0 (omega arith), le-leb PB0 r (omega arith), le-ltb r PC0 h, le-leb PC0 r h, lt-ltb r H1 k)

-- What holds of each pin's, and of what stands for all other numbers, holds of whatever is found.
pub any_pin : {A : Type 0} (P : A → Type 0) (a b c : ℕ → A) (h1 h2 h3 h4 other : A) (r : ℕ)
    → (Missed r (pins a b c h1 h2 h3 h4) → P other) → Each P r (pins a b c h1 h2 h3 h4) (P (pinned a b c h1 h2 h3 h4 other r))
unfolding pinned
any_pin P a b c h1 h2 h3 h4 other r = each P (pins a b c h1 h2 h3 h4) other r
