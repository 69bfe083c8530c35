-- When an accepted list opens from a start on (01, 'Timer').
use Rattle.std.specs.Prelude.{ℕ, ◌+◌, ◌-◌, ◌*◌, ◌/◌, ◌≤◌, ◌<◌, true, List, [], ◌∷◌, ◌++◌, ◌≡◌, get_or, length, drop}
use Rattle.std.proofs.Common.{append_assoc, ◌∙◌, arith, get_or-append-add}
use Rattle.std.proofs.Math.Path.{ap}
use Rattle.std.proofs.Math.Nat.{zero-add}
use Rattle.std.proofs.Math.ListN.{get_or-append}
use Rattle.std.proofs.Math.Seq.{take-append_seam}
use Rattle.event.specs.declared.Event.{Event}
use Rattle.clocks.specs.Numbers.{Rising}
use Rattle.clocks.specs.Periods.{multiples}
use Rattle.wire.specs.List.{events, parsed}
use Rattle.wire.specs.Needs.{needs_of}
use Rattle.wire.specs.WellFormed.{IsWellFormed, AllWellFormed}
use Rattle.wire.specs.Totals.{totals}
use Rattle.device.specs.Events.{Made, joined, effect, made}
use Rattle.device.specs.Validity.{valid_of}
use Rattle.device.specs.declared.Device.{Device}
use Rattle.laws.specs.Stays.{list_stays}
use Rattle.play.specs.Play.{Result, acceptance, play_of}
use Rattle.survey.specs.Needed.{clocks_passed}
use Rattle.promises.specs.Prefixes.{prefix}
use Rattle.promises.specs.Openings.{rise_strictly}
use Rattle.promises.specs.Undisturbed.{Undisturbed}
use Rattle.promises.specs.Formula.{preload_of, formula, how_many, opening_at}
use Rattle.promises.specs.Kinds.{Starting}
use Rattle.promises.specs.Starting.{Started, start}
use Rattle.promises.specs.Effects.{stored, accepted_is_the_fold}
use Rattle.promises.specs.Again.{byte, bytes}

-- the device after events from its first clock on, and after one event more
abbrev pub device_after : Device → List Event → Device
device_after d xs = (made d 0 xs).device

abbrev pub device_started : Device → List Event → Event → Device
device_started d xs e = (effect (device_after d xs) (made d 0 xs).clocks e).device

-- events xs, then an event e before which the timer is halted, and after which it runs on CLK through the prescaler with reload and a
-- preload of 1 or more, then events ys that do not disturb that run
pub record Run (d : Device) (xs : List Event) (e : Event) (ys : List Event) : Type 0 where
  pub starts : Starting (device_after d xs) (device_started d xs e)
  pub preload : 1 ≤ preload_of (device_after d xs)
  pub undisturbed : Undisturbed (device_started d xs e).gate.timer.tcr ys

-- what a list holds before an event and that event are well formed
formed_to : (xs : List Event) (e : Event) (ys : List Event) → AllWellFormed (xs ++ e ∷ ys) → AllWellFormed xs × IsWellFormed e
unfolding AllWellFormed
formed_to [] e ys formed = (tt, formed.0)
formed_to (x ∷ xs) e ys formed = let f = formed_to xs e ys formed.1 in ((formed.0, f.0), f.1)

-- a list that is accepted on a device: events xs, a start e, events ys of its run, and any events zs after them
module _ (s : List ℕ) (d : Device) (answers openings : List ℕ) (accepted : (play_of s d answers openings).outcome.refusal ≡ 0)
    (xs : List Event) (e : Event) (ys zs : List Event) (read : parsed s ≡ events (xs ++ e ∷ (ys ++ zs))) (run : Run d xs e ys) where
  abbrev call : Result
  call = play_of s d answers openings

  -- N, the preload at the start
  abbrev N : ℕ
  N = preload_of (device_after d xs)

  -- the clocks that have passed at the start, and by the end of the run
  abbrev at_start : ℕ
  at_start = (needs_of xs).clocks

  abbrev at_end : ℕ
  at_end = (needs_of xs).clocks + (needs_of ys).clocks

  -- how often 32 x (N + 1) clocks pass in the run
  abbrev times : ℕ
  times = (needs_of ys).clocks / (32 * (N + 1))

  -- what the events before the start open, and what those after the run do
  abbrev earlier : List ℕ
  earlier = (made d 0 xs).openings

  abbrev later : List ℕ
  later = (made (device_after d (xs ++ e ∷ ys)) at_end zs).openings

  formed : AllWellFormed xs × IsWellFormed e
  formed = formed_to xs e (ys ++ zs) (totals s (xs ++ e ∷ (ys ++ zs)) read).formed

  valid : valid_of (device_after d xs) ≡ true
  valid = list_stays xs d 0 (bytes xs formed.0) (accepted_is_the_fold s d answers openings accepted).valid

  started : Started (device_after d xs) (made d 0 xs).clocks (effect (device_after d xs) (made d 0 xs).clocks e)
  started = start (device_after d xs) (made d 0 xs).clocks e (byte e formed.1) valid run.starts

  -- what the events of the run make
  abbrev ran : Made
  ran = made (device_started d xs e) at_start ys

  -- the start shows nothing: what events make after it follows on what xs make
  begun : (l : List Event) → made d 0 (xs ++ e ∷ l) ≡ joined (made d 0 xs) (made (device_started d xs e) at_start l)
  unfolding made
  begun l =
      let f = device_started d xs e in
      let passed : (made d 0 xs).clocks ≡ at_start = clocks_passed d 0 xs ∙ zero-add at_start in
      prefix xs (e ∷ l) d 0
      ∙ ap (joined (made d 0 xs)) (ap (λ (x : Made). joined x (made f x.clocks l)) started.shows ∙ ap (λ (k : ℕ). made f k l) passed)

  -- and what zs make follows on the run
  followed_up : made d 0 (xs ++ e ∷ (ys ++ zs)) ≡ joined (made d 0 xs) (joined ran (made (device_after d (xs ++ e ∷ ys)) at_end zs))
  followed_up =
      let f = device_started d xs e in
      let left : device_after d (xs ++ e ∷ ys) ≡ ran.device = ap (λ (x : Made). x.device) (begun ys) in
      begun (ys ++ zs) ∙ ap (joined (made d 0 xs)) (prefix ys zs f at_start ∙ rw (left, clocks_passed f at_start ys))

  plays : call ≡ acceptance d answers openings (joined (made d 0 xs) (joined ran (made (device_after d (xs ++ e ∷ ys)) at_end zs)))
  plays =
      let f = accepted_is_the_fold s d answers openings accepted in
      let same : f.es ≡ xs ++ e ∷ (ys ++ zs) = cc in
      (rw same at f.result) ∙ ap (acceptance d answers openings) followed_up

  some : 1 ≤ preload_of (device_started d xs e)
  some = rw started.preload run.preload

  run_openings : ran.openings ≡ multiples (32 * (N + 1)) at_start times
  run_openings = rw started.preload at (formula (device_started d xs e) started.starts ys run.undisturbed at_start some)

  run_length : length ran.openings ≡ times
  run_length = rw started.preload at (how_many (device_started d xs e) started.starts ys run.undisturbed at_start some)

  run_opening : (i : ℕ) → 1 ≤ i → i ≤ times → get_or ran.openings (i - 1) 0 ≡ at_start + 32 * i * (N + 1)
  run_opening = rw started.preload at (opening_at (device_started d xs e) started.starts ys run.undisturbed at_start some)

  -- While the run lasts the list opens 32 x (N + 1) clocks after the start, and again each time as many have passed; never else.
  pub opens_from_start : stored call ≡ earlier ++ (multiples (32 * (N + 1)) at_start times ++ later)
  opens_from_start = rw (plays, run_openings) (take-append_seam _ _)

  -- Opening i of the run, counted from 1, is numbered 32 x i x (N + 1) more than the clocks that had passed at the start.
  pub opening_from_start : (i : ℕ) → 1 ≤ i → i ≤ times → get_or call.openings (length earlier + (i - 1)) 0 ≡ at_start + 32 * i * (N + 1)
  opening_from_start i one most =
      let m = ran.openings in
      let r = drop (length (earlier ++ (m ++ later))) openings in
      let within : i - 1 < length m = omega (arith, run_length) in
      let whole : call.openings ≡ earlier ++ (m ++ (later ++ r)) =
      ap (λ (x : Result). x.openings) plays ∙ append_assoc earlier (m ++ later) r ∙ ap (λ (x : List ℕ). earlier ++ x) (append_assoc m later r) in
      rw whole (get_or-append-add earlier (m ++ (later ++ r)) (i - 1) 0 ∙ get_or-append m (later ++ r) 0 (i - 1) within ∙ run_opening i one most)

  -- What the list opens after the run carries numbers past that of the run's last clock.
  pub opens_after_run : Rising at_end call.outcome.clocks later
  opens_after_run = rw plays (rise_strictly zs (device_after d (xs ++ e ∷ ys)) at_end)
