-- The function of include/pit.h that plays a list: what it answers, and what all that it is lent then holds.
use Rattle.std.specs.Prelude.{ℕ, Bool, ◌&&◌, List, [], ◌∷◌, eqb, length, if◌then◌else◌}
use Rattle.play.specs.Play.{Outcome, Result, play_of}
use Rattle.pit_c.specs.Layout.{bytes_of, device_of}
use Rattle.pit_c.specs.Calls.{wrong_size, sized}

-- how many totals there are
abbrev pub totals_count : ℕ
totals_count = 4

-- a refusal's place, the answer bytes, the openings and the clocks
abbrev pub totals_of : Outcome → List ℕ
totals_of o = o.place ∷ o.answers ∷ o.openings ∷ o.clocks ∷ []

module _ (l list answers openings totals : List ℕ) where
  -- both sizes are those that the call asks for
  abbrev pub playable : Bool
  playable = sized l && eqb (length totals) totals_count

  abbrev pub played : Result
  played = play_of list (device_of l) answers openings

  abbrev pub play_answer : ℕ
  play_answer = if playable then played.outcome.refusal else wrong_size

  -- a refusal leaves the device's bytes as they were
  abbrev pub play_device : List ℕ
  play_device = if playable && eqb played.outcome.refusal 0 then bytes_of played.outcome.device else l

  abbrev pub play_answers : List ℕ
  play_answers = if playable then played.answers else answers

  abbrev pub play_openings : List ℕ
  play_openings = if playable then played.openings else openings

  abbrev pub play_totals : List ℕ
  play_totals = if playable then totals_of played.outcome else totals
