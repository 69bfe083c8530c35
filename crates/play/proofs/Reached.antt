-- How far a run has come: what is left of the list, played from here, ends as the whole list played from the start.
use Prim.Native.Nat.{ℕ, ◌+◌, ◌*◌, ◌≤◌, ◌<◌}
use mathlib.Core.Path.{◌≡◌, refl, sym, ap, ◌∙◌}
use mathlib.Core.List.{List, [], ◌++◌}
use native.Mathlib.Nat.{add-zero, zero-add}
use native.Mathlib.Omega.{arith}
use lib.ListN.{length, length-append}
use lib.Seq.{sets, length-sets}
use Rattle.event.specs.declared.Event.{Event}
use Rattle.wire.specs.Field.{bits_in}
use Rattle.wire.specs.Next.{next_at, most_bits, most_clocks}
use Rattle.wire.specs.Needs.{clocks_in, two_answers}
use Rattle.wire.specs.List.{Parsed, events, refused, prepend, follow, rest, parsed}
use Rattle.wire.specs.Rest.{rest_reads}
use Rattle.wire.specs.Finds.{moves}
use Rattle.wire.specs.Word.{NoEvent}
use Rattle.wire.specs.Next.{Next}
use Rattle.wire.specs.Next.{Play, End, Refused}
use Rattle.clocks.specs.Clocks.{numbers}
use Rattle.clocks.specs.Filling.{sets_append}
use Rattle.device.specs.Events.{Made, effect, made}
use Rattle.device.specs.declared.Device.{Device}
use Rattle.survey.specs.Needed.{event_answers, event_openings, event_clocks}
use Rattle.play.specs.Play.{Outcome, Result, result}
use Rattle.play.specs.Run.{stored}
use Rattle.play.proofs.Leaves.{Tally, tally, Leaves}

-- how a list ends that is played from a tally on: with a result, or, being refused, not at all
pub data Ending : Type 0 where
  played : Result → Ending
  unplayed : Ending

-- a success with these totals
abbrev pub success : Device → ℕ → ℕ → ℕ → Outcome
success d a o k = record { refusal = 0; place = 0; answers = a; openings = o; clocks = k; device = d }

-- what was made after a tally, added and stored
abbrev pub added : Tally → List ℕ → List ℕ → Made → Result
added t A R m =
    result (success m.device (t.answers + length m.answers) (t.openings + length m.openings) m.clocks)
    (sets A t.answers m.answers)
    (sets R t.openings m.openings)

abbrev pub ending_of : Tally → List ℕ → List ℕ → Parsed → Ending
ending_of t A R (refused r p) = unplayed
ending_of t A R (events es) = played (added t A R (made t.device t.clocks es))

-- an event in front: its effect first, and then the rest from there
module _ (t : Tally) (A R : List ℕ) (e : Event) where
  abbrev f : Made
  f = effect t.device t.clocks e

  abbrev next : Tally
  next = tally f.device (t.answers + length f.answers) (t.openings + length f.openings) f.clocks

  more : (n : ℕ) (x y : List ℕ) → n + length x + length y ≡ n + length (x ++ y)
  more n x y = omega (arith, length-append x y)

  effect_first : (P : Parsed) → ending_of next (sets A t.answers f.answers) (sets R t.openings f.openings) P ≡ ending_of t A R (prepend e P)
  unfolding made
  effect_first (refused r p) = refl
  effect_first (events es) =
      let m = made f.device f.clocks es in
      let a = more t.answers f.answers m.answers in
      let o = more t.openings f.openings m.openings in
      let A' = sets_append f.answers m.answers A t.answers in
      let R' = sets_append f.openings m.openings R t.openings in
      λ i. played (result (success m.device (a i) (o i) m.clocks) (sym A' i) (sym R' i))

  event_first : (t' : Tally) (A' R' : List ℕ) → Leaves t A R f t' A' R' → (P : Parsed) → ending_of t' A' R' P ≡ ending_of t A R (prepend e P)
  event_first t' A' R' w P =
      (λ i. ending_of (tally (w.device i) (w.answers i) (w.openings i) (w.clocks i)) (w.bytes i) (w.row i) P) ∙ effect_first P

-- what a run that has come to a bit can have counted: two answer bytes stand for at least three bits, and at most 65,536 clocks for
-- 19, of which each opens once at most
pub record Counted (t : Tally) (at : ℕ) : Type 0 where
  pub answered : t.answers ≤ at
  pub opened : t.openings ≤ t.clocks
  pub clocked : 19 * t.clocks ≤ most_clocks * at

pub record Reached (s A₀ R₀ : List ℕ) (d₀ : Device) (A R : List ℕ) (t : Tally) (at : ℕ) : Type 0 where
  pub same : ending_of t A R (rest s at) ≡ ending_of (tally d₀ 0 0 0) A₀ R₀ (parsed s)
  pub counted : Counted t at
  pub within : at ≤ bits_in s
  pub few : at ≤ most_bits
  pub bytes : length A ≡ length A₀
  pub rows : length R ≡ length R₀

-- before the first event
pub start : (s A R : List ℕ) (d : Device) → Reached s A R d A R (tally d 0 0 0) 0
start s A R d = record {
  same = refl;
  counted = record { answered = omega arith; opened = omega arith; clocked = omega arith };
  within = omega arith;
  few = omega arith;
  bytes = refl;
  rows = refl;
}

module _ (s A₀ R₀ : List ℕ) (d₀ : Device) (A R : List ℕ) (t : Tally) (at : ℕ) (reached : Reached s A₀ R₀ d₀ A R t at) where
  -- the numbers of a list's clocks fit
  pub fits : (e : Event) (p : ℕ) → next_at s at ≡ Play e p → t.clocks + clocks_in e < numbers
  fits e p read = omega (arith, (moves s at e p read).few, reached.counted.clocked, reached.few)

  -- one event more
  pub further : (e : Event) (p : ℕ) → next_at s at ≡ Play e p → (t' : Tally) (A' R' : List ℕ)
      → Leaves t A R (effect t.device t.clocks e) t' A' R' → Reached s A₀ R₀ d₀ A' R' t' p
  further e p read t' A' R' w =
      let m = moves s at e p read in
      let k = reached.counted in
      let c : t'.clocks ≡ t.clocks + clocks_in e = w.clocks ∙ event_clocks t.device t.clocks e in
      let fa = event_answers t.device t.clocks e in
      let fo = event_openings t.device t.clocks e in
      let ta = two_answers e in
      let a = w.answers in
      let o = w.openings in
      record {
        same = event_first t A R e t' A' R' w (rest s p) ∙ ap (ending_of t A R) (sym (rest_reads s at (Play e p) read)) ∙ reached.same;
        counted = record { answered = omega arith; opened = omega arith; clocked = omega arith };
        within = m.within;
        few = omega (arith, m.within, m.short);
        bytes = ap length w.bytes ∙ length-sets A t.answers (f t A R e).answers ∙ reached.bytes;
        rows = ap length w.row ∙ length-sets R t.openings (f t A R e).openings ∙ reached.rows;
      }

  -- no event stands here: the run ends as the list does
  last : (x : Next) → NoEvent x → (es : List Event)
      → ending_of t A R (follow (rest s) x) ≡ ending_of (tally d₀ 0 0 0) A₀ R₀ (events es)
      → result (success t.device t.answers t.openings t.clocks) A R ≡ stored (made d₀ 0 es) A₀ R₀
  unfolding made
  last (Play e p) none es same = absurd none
  last (Refused r p) none es same = absurd (let z : ◌≡◌ {A = ℕ} 0 1 = cc in omega arith)
  last End none es same =
      let m = made d₀ 0 es in
      let e : added t A R (made t.device t.clocks []) ≡ added (tally d₀ 0 0 0) A₀ R₀ m = cc in
      (λ i. result (success t.device (sym (add-zero t.answers) i) (sym (add-zero t.openings) i) t.clocks) A R)
      ∙ e
      ∙ (λ i. result (success m.device (zero-add (length m.answers) i) (zero-add (length m.openings) i) m.clocks) (sets A₀ 0 m.answers) (sets R₀ 0 m.openings))

  pub finished : NoEvent (next_at s at) → (es : List Event) → parsed s ≡ events es
      → result (success t.device t.answers t.openings t.clocks) A R ≡ stored (made d₀ 0 es) A₀ R₀
  finished none es e =
      last (next_at s at) none es (ap (ending_of t A R) (sym (rest_reads s at (next_at s at) refl)) ∙ reached.same ∙ ap (ending_of (tally d₀ 0 0 0) A₀ R₀) e)
