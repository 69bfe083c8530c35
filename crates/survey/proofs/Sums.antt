-- How far a check has come: what is left of the list, summed from here, comes to what the whole list does from its first bit.
use Prim.Native.Nat.{ℕ, ◌+◌, ◌*◌, ◌≤◌}
use mathlib.Core.Path.{◌≡◌, refl, sym, ap, ◌∙◌, subst}
use mathlib.Core.List.{List, []}
use native.Mathlib.Omega.{arith}
use Rattle.event.specs.declared.Event.{Event}
use Rattle.wire.specs.Field.{bits_in}
use Rattle.wire.specs.Next.{Next, Play, End, Refused as Refuses, next_at, most_bits, most_clocks}
use Rattle.wire.specs.Needs.{answers_in, clocks_in, two_answers}
use Rattle.wire.specs.List.{events, refused, rest, parsed}
use Rattle.wire.specs.Rest.{rest_reads}
use Rattle.wire.specs.Finds.{moves}
use Rattle.wire.specs.Word.{NoEvent}
use Rattle.survey.specs.Check.{Whole, Refused, checked_of, checking_on, from_first, event_first, at_end_lem}

pub record Summed (s : List ℕ) (a k at : ℕ) : Type 0 where
  pub same : checking_on a k (rest s at) ≡ checked_of (parsed s)
  pub within : at ≤ bits_in s
  pub few : at ≤ most_bits
  pub answers : a ≤ at
  pub clocks : 19 * k ≤ most_clocks * at

pub start : (s : List ℕ) → Summed s 0 0 0
start s = record { same = from_first (parsed s); within = omega arith; few = omega arith; answers = omega arith; clocks = omega arith }

-- one event more
pub further : (s : List ℕ) (a k at : ℕ) → Summed s a k at → (e : Event) (p : ℕ) → next_at s at ≡ Play e p → Summed s (a + answers_in e) (k + clocks_in e) p
further s a k at sum e p read =
    let m = moves s at e p read in
    let t = two_answers e in
    let q = sum.answers in
    let c = sum.clocks in
    record {
      same = event_first a k e (rest s p) ∙ sym (ap (checking_on a k) (rest_reads s at (Play e p) read)) ∙ sum.same;
      within = m.within;
      few = omega (arith, m.within, m.short);
      answers = omega (arith, m.forward);
      clocks = omega (arith, m.pace);
    }

-- no event more: the list ends, or is refused
module _ (s : List ℕ) (a k at : ℕ) (sum : Summed s a k at) where
  pub whole : rest s at ≡ events [] → Whole (record { answers = a; clocks = k }) ≡ checked_of (parsed s)
  whole end = at_end_lem a k ∙ ap (checking_on a k) (sym end) ∙ sum.same

  -- no event stands here, and no refusal
  none_on : (x : Next) → next_at s at ≡ x → NoEvent x → ((r p : ℕ) → x ≡ Refuses r p → ⊥) → rest s at ≡ events []
  none_on (Play e p) here none t = absurd none
  none_on End here none t = rest_reads s at End here
  none_on (Refuses r p) here none t = absurd (t r p refl)

  pub ended : (x : Next) → x ≡ next_at s at → NoEvent (next_at s at) → ((r p : ℕ) → x ≡ Refuses r p → ⊥)
      → Whole (record { answers = a; clocks = k }) ≡ checked_of (parsed s)
  ended x here none t = whole (none_on x (sym here) (subst NoEvent (sym here) none) t)

  pub refusing : (r p : ℕ) → rest s at ≡ refused r p → Refused r p ≡ checked_of (parsed s)
  refusing r p end = ap (checking_on a k) (sym end) ∙ sum.same
