-- How many answer bytes events append, and how many clocks they are, whatever the device.
use Rattle.std.specs.Prelude.{ℕ, ◌+◌, ◌≤◌, List, [], ◌∷◌}
use Rattle.std.proofs.Common.{arith}
use Rattle.event.specs.declared.Event.{Event}
use Rattle.event.specs.declared.Event.TheVariants.{Write, Read, PortAcknowledge, TimerAcknowledge, Pin, Clocks, Reset}

-- 'Each read and each acknowledge appends two answer bytes'
abbrev pub answers_in : Event → ℕ
answers_in (Write r v) = 0
answers_in (Read r) = 2
answers_in PortAcknowledge = 2
answers_in TimerAcknowledge = 2
answers_in (Pin n l) = 0
answers_in (Clocks n) = 0
answers_in Reset = 0

-- how many clocks an event is
abbrev pub clocks_in : Event → ℕ
clocks_in (Write r v) = 0
clocks_in (Read r) = 0
clocks_in PortAcknowledge = 0
clocks_in TimerAcknowledge = 0
clocks_in (Pin n l) = 0
clocks_in (Clocks n) = n
clocks_in Reset = 0

-- what events need: answer bytes, and the clocks that they are
pub record Needs : Type 0 where
  pub answers : ℕ
  pub clocks : ℕ

-- what events need, one after the other
unfoldable pub needs_of : List Event → Needs
needs_of [] = record { answers = 0; clocks = 0 }
needs_of (e ∷ es) = record { answers = answers_in e + (needs_of es).answers; clocks = clocks_in e + (needs_of es).clocks }

-- an event needs at most two answer bytes
pub two_answers : (e : Event) → answers_in e ≤ 2
two_answers (Write r v) = omega arith
two_answers (Read r) = omega arith
two_answers PortAcknowledge = omega arith
two_answers TimerAcknowledge = omega arith
two_answers (Pin n l) = omega arith
two_answers (Clocks n) = omega arith
two_answers Reset = omega arith
