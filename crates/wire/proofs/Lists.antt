-- Lists and what they come to: 01's P1 to P5 and its list for `pit-run`; 2 before 3 in an event; a list that stops;
-- a fill bit wherever it stands, also before a further byte; an end mark that closes a byte.
use Rattle.std.proofs.Common.{◌≡◌, ℕ, true, List, [], ◌∷◌, map, refl}
use Rattle.wire.specs.Field.{field_at}
use Rattle.wire.specs.Next.{size_of, close_at, pin_or_refusal, event_at, next_at}
use Rattle.wire.specs.List.{Parsed, events, refused, parse, rest, parsed}
use Rattle.event.specs.declared.Event.TheVariants.{Write, Read, Pin, Clocks, Reset}

pub record Try : Type 0 where
  pub bytes : List ℕ
  pub comes : Parsed

abbrev try : List ℕ → Parsed → Try
try s to = record { bytes = s; comes = to }

unfoldable pub tries : List Try
tries =
    try [] (refused 2 0)
    ∷ try (0xE0 ∷ []) (events [])
    ∷ try (0xE1 ∷ []) (refused 4 3)
    ∷ try (0xE0 ∷ 0x00 ∷ []) (refused 5 8)
    ∷ try (0x9C ∷ 0x00 ∷ []) (refused 3 0)
    ∷ try (0x9C ∷ []) (refused 2 0)
    ∷ try (0x9B ∷ 0xF0 ∷ []) (events (Pin 27 true ∷ []))
    ∷ try (0x20 ∷ []) (refused 2 8)
    ∷ try (0xC0 ∷ []) (refused 2 3)
    ∷ try (0xF0 ∷ 0x00 ∷ []) (refused 4 3)
    ∷ try (0xDB ∷ 0x6D ∷ 0xB7 ∷ []) (events (Reset ∷ Reset ∷ Reset ∷ Reset ∷ Reset ∷ Reset ∷ Reset ∷ []))
    ∷ try (0xDB ∷ 0x6D ∷ 0xB7 ∷ 0x00 ∷ []) (refused 5 24)
    ∷ try (0x15 ∷ 0x01 ∷ 0x10 ∷ 0x01 ∷ 0xA0 ∷ 0x0F ∷ 0xE7 ∷ 0x5C ∷ []) (events (Write 21 1 ∷ Write 16 1 ∷ Clocks 128 ∷ Read 26 ∷ []))
    ∷ []

pub every_list : map (λ (t : Try). parsed t.bytes) tries ≡ map (λ (t : Try). t.comes) tries
unfolding tries parse rest next_at event_at pin_or_refusal close_at size_of field_at
every_list = refl
