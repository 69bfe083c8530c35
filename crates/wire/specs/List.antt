-- A whole list as its events, or why it is refused and where.
-- 01, table of refusals: 'Test .. 1, then 2 and 3 event by event, then 4, 5'.
use Rattle.std.specs.Prelude.{ℕ, zero, suc, ◌-◌, List, [], ◌∷◌}
use Rattle.wire.specs.Field.{bits_in}
use Rattle.wire.specs.Next.{next_at}
use Rattle.event.specs.declared.Event.{Event}
use Rattle.wire.specs.Next.{Next}
use Rattle.wire.specs.Next.{Play, End, Refused}

pub data Parsed : Type 0 where
  events : List Event → Parsed
  -- number and place
  refused : ℕ → ℕ → Parsed

-- an event in front of what follows it
abbrev pub prepend : Event → Parsed → Parsed
prepend e (events es) = events (e ∷ es)
prepend e (refused r p) = refused r p

-- what stands at a bit, and what follows an event
abbrev pub follow : (ℕ → Parsed) → Next → Parsed
follow rest (Play e p) = prepend e (rest p)
follow rest End = events []
follow rest (Refused r p) = refused r p

-- the events from bit at on, read one after the other, at most n of them
unfoldable pub parse : List ℕ → ℕ → ℕ → Parsed
parse s zero at = refused 2 at
parse s (suc n) at = follow (parse s n) (next_at s at)

-- all that stands from bit at on. An event takes at least three bits, so that a try for each bit left, and one, is enough
unfoldable pub rest : List ℕ → ℕ → Parsed
rest s at = parse s (suc (bits_in s - at)) at

-- a whole list
abbrev pub parsed : List ℕ → Parsed
parsed s = rest s 0
