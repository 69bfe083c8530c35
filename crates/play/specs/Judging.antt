-- What is found of a call before it is played: why it is refused, or that all it asks for is there.
use Rattle.std.specs.Prelude.{ℕ, ◌≡◌, List, length, Result as Either}
use Rattle.std.specs.Result.{MatchResult}
use Rattle.event.specs.declared.Event.{Event}
use Rattle.wire.specs.List.{events, parsed}
use Rattle.wire.specs.Told.{number_of}
use Rattle.wire.specs.declared.refusal.Refused.{Refused}
use Rattle.device.specs.Events.{made}
use Rattle.device.specs.declared.Device.{Device}
use Rattle.play.specs.Play.{refusal, play_of}
use Rattle.play.specs.Run.{stored}

module _ (s : List ℕ) (d : Device) (answers openings : List ℕ) where
  -- all that the events of the list make is stored,
  abbrev pub Accepts : Type 0
  Accepts = (es : List Event) × (parsed s ≡ events es) × (stored (made d 0 es) answers openings ≡ play_of s d answers openings)

  -- or is refused
  abbrev pub Refuses : Refused → Type 0
  Refuses r = refusal d answers openings (number_of r.refusal) r.place ≡ play_of s d answers openings

-- whatever the lent bytes and the lent row hold, so many of them decide
abbrev pub Judges : List ℕ → Device → ℕ → ℕ → Either (Unit {0}) Refused → Type 0
Judges s d a o r =
    (answers openings : List ℕ) → length answers ≡ a → length openings ≡ o
    → MatchResult r (λ _. Accepts s d answers openings) (Refuses s d answers openings)
