-- A device that a success hands back is accepted by the next call.
use Rattle.std.specs.Prelude.{ℕ, true, List, [], ◌∷◌, ◌≡◌, refl}
use Rattle.std.proofs.lemmas.Bool.{false≢true}
use Rattle.std.proofs.Common.{sym, ◌∙◌}
use Rattle.event.specs.declared.Event.{Event}
use Rattle.event.specs.declared.Event.TheVariants.{Write, Read, PortAcknowledge, TimerAcknowledge, Pin, Clocks, Reset}
use Rattle.wire.specs.WellFormed.{IsWellFormed, AllWellFormed}
use Rattle.wire.specs.Totals.{totals}
use Rattle.device.specs.Validity.{valid_of}
use Rattle.device.specs.declared.Device.{Device}
use Rattle.laws.specs.Stays.{Byte, Bytes, list_stays}
use Rattle.play.specs.Play.{play_of}
use Rattle.promises.specs.Refusals.{refusal_8}
use Rattle.promises.specs.Effects.{accepted_is_the_fold}

-- a value that a list writes is a byte
pub byte : (e : Event) → IsWellFormed e → Byte e
byte (Write r v) formed = formed.1
byte (Read r) formed = tt
byte PortAcknowledge formed = tt
byte TimerAcknowledge formed = tt
byte (Pin n level) formed = tt
byte (Clocks n) formed = tt
byte Reset formed = tt

pub bytes : (es : List Event) → AllWellFormed es → Bytes es
unfolding AllWellFormed
bytes [] formed = tt
bytes (e ∷ es) formed = (byte e formed.0, bytes es formed.1)

module _ (s : List ℕ) (d : Device) (answers openings : List ℕ) (accepted : (play_of s d answers openings).outcome.refusal ≡ 0) where
  -- The device that a success hands back is valid.
  pub still_valid : valid_of (play_of s d answers openings).outcome.device ≡ true
  still_valid =
      let f = accepted_is_the_fold s d answers openings accepted in
      rw f.result (list_stays f.es d 0 (bytes f.es (totals s f.es f.read).formed) f.valid)

  -- No call to which it is handed is refused 8.
  pub never_8 : (t : List ℕ) (bytes row : List ℕ) → (play_of t (play_of s d answers openings).outcome.device bytes row).outcome.refusal ≡ 8 → ⊥
  never_8 t bytes row given =
      let e = (play_of s d answers openings).outcome.device in
      let p = (play_of t e bytes row).outcome.place in
      false≢true (sym ((refusal_8 t e bytes row p).0 (given, refl)).0 ∙ still_valid)
