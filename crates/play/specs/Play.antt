-- The call `play(list, device, answers, openings)` (01, 'The event list'): the list taken apart, then the effect of its events; the
-- refusals in 01's order: 8, then 1 to 5 as the list is read, then 6, then 7.
use Rattle.std.specs.Prelude.{ℕ, ◌≡◌, List, ◌++◌, ltb, length, drop, if◌then◌else◌, Result as Either, Ok, Err}
use Rattle.wire.specs.List.{Parsed, events, refused, parsed}
use Rattle.device.specs.Events.{Made, made}
use Rattle.device.specs.Validity.{valid_of}
use Rattle.device.specs.declared.Device.{Device}
use Rattle.wire.specs.Told.{number_of}
use Rattle.wire.specs.declared.refusal.Refused.{Refused}
use Rattle.play.specs.declared.playing.Totals.{Totals}
use Rattle.play.specs.declared.playing.Played.{Played}

-- what a call hands back, by 01's numbers: a refusal, 0 for none, with its place in bits; the totals; the device
pub record Outcome : Type 0 where
  pub refusal : ℕ
  pub place : ℕ
  pub answers : ℕ
  pub openings : ℕ
  pub clocks : ℕ
  pub device : Device

-- everything that a call leaves: its outcome, and what the lent bytes and the lent row then hold
pub record Result : Type 0 where
  pub outcome : Outcome
  pub answers : List ℕ
  pub openings : List ℕ

abbrev pub result : Outcome → List ℕ → List ℕ → Result
result o answers openings = record { outcome = o; answers = answers; openings = openings }

-- 01: a refused call returns number, place, zero answers, openings and clocks, and the device it was given
abbrev pub refused_outcome : ℕ → ℕ → Device → Outcome
refused_outcome r p d = record { refusal = r; place = p; answers = 0; openings = 0; clocks = 0; device = d }

-- 01: a success returns the new device and those three totals
abbrev pub accepted_outcome : Made → Outcome
accepted_outcome m = record {
  refusal = 0;
  place = 0;
  answers = length m.answers;
  openings = length m.openings;
  clocks = m.clocks;
  device = m.device;
}

-- the code's result told so: the device that it hands back, with the totals or with a refusal
abbrev pub outcome_with : Device → Either Totals Refused → Outcome
outcome_with d (Ok t) = record { refusal = 0; place = 0; answers = t.answers; openings = t.openings; clocks = t.clocks; device = d }
outcome_with d (Err r) = refused_outcome (number_of r.refusal) r.place d

abbrev pub outcome_of : Played → Outcome
outcome_of p = outcome_with p.device p.totals

module _ (d : Device) (answers openings : List ℕ) where
  -- nothing lent is written
  abbrev pub refusal : ℕ → ℕ → Result
  refusal r p = result (refused_outcome r p d) answers openings

  -- entries and answer bytes past those used keep what they held
  abbrev pub acceptance : Made → Result
  acceptance m =
      result (accepted_outcome m)
      (m.answers ++ drop (length m.answers) answers)
      (m.openings ++ drop (length m.openings) openings)

  -- 6: answers need more bytes than lent; 7: openings outnumber the lent row
  abbrev pub settled : Made → Result
  settled m =
      if ltb (length answers) (length m.answers) then refusal 6 0
      else if ltb (length openings) (length m.openings) then refusal 7 0
      else acceptance m

  abbrev pub settle : Parsed → Result
  settle (refused r p) = refusal r p
  settle (events es) = settled (made d 0 es)

unfoldable pub play_of : List ℕ → Device → List ℕ → List ℕ → Result
play_of s d answers openings =
    if valid_of d then settle d answers openings (parsed s) else refusal d answers openings 8 0

-- what the contract of `play` says of what it hands back and of what is left in the bytes and the row
abbrev pub Plays : List ℕ → Device → List ℕ → List ℕ → Played → List ℕ → List ℕ → Type 0
Plays s d answers openings p answers' openings' = result (outcome_of p) answers' openings' ≡ play_of s d answers openings
