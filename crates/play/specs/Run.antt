-- A run over the events of a list that is taken, whatever room is lent: what fits is stored, and all is counted.
use Rattle.std.specs.Prelude.{ℕ, ◌≡◌, List}
use Rattle.std.proofs.lemmas.List.Edits.{sets}
use Rattle.event.specs.declared.Event.{Event}
use Rattle.wire.specs.List.{events, parsed}
use Rattle.device.specs.Events.{Made, made}
use Rattle.device.specs.declared.Device.{Device}
use Rattle.play.specs.Play.{Result, result, accepted_outcome, outcome_of}
use Rattle.play.specs.declared.playing.Played.{Played}

-- what was made, stored from the first byte and the first entry on
abbrev pub stored : Made → List ℕ → List ℕ → Result
stored m answers openings = result (accepted_outcome m) (sets answers 0 m.answers) (sets openings 0 m.openings)

-- what the contract of `run` says of what it hands back and of what is left in the bytes and the row
abbrev pub Runs : List ℕ → Device → List ℕ → List ℕ → Played → List ℕ → List ℕ → Type 0
Runs s d answers openings p answers' openings' =
    (es : List Event) → parsed s ≡ events es → result (outcome_of p) answers' openings' ≡ stored (made d 0 es) answers openings
