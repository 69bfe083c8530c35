-- How far a count has come: what is left of the list, followed from here, comes to what the whole list does from the start.
use Prim.Native.Nat.{ℕ, ◌+◌, ◌*◌, ◌≤◌}
use mathlib.Core.Path.{◌≡◌, refl, sym, ap, ◌∙◌, subst}
use mathlib.Core.List.{List}
use native.Mathlib.Omega.{arith}
use Rattle.std.specs.Prelude.{true, false, Result, Ok, Err, is_ok}
use Rattle.event.specs.declared.Event.{Event}
use Rattle.gate.specs.declared.Gate.{Gate}
use Rattle.wire.specs.Field.{bits_in}
use Rattle.wire.specs.Next.{Next, Play, End, Refused as Refuses, next_at, most_bits, most_clocks}
use Rattle.wire.specs.Events.{ending}
use Rattle.wire.specs.List.{rest, parsed}
use Rattle.wire.specs.Rest.{rest_reads}
use Rattle.wire.specs.Finds.{moves}
use Rattle.wire.specs.Word.{NoEvent}
use Rattle.wire.specs.declared.refusal.Refused.{Refused}
use Rattle.device.specs.Following.{followed}
use Rattle.survey.specs.Following.{opens_at, opens_few, going_on, event_first, at_end_lem}

pub record Counted (s : List ℕ) (g₀ g : Gate) (n at : ℕ) : Type 0 where
  pub same : going_on g n (rest s at) ≡ going_on g₀ 0 (parsed s)
  pub within : at ≤ bits_in s
  pub few : at ≤ most_bits
  pub most : 19 * n ≤ most_clocks * at

pub start : (s : List ℕ) (g : Gate) → Counted s g g 0 0
start s g = record { same = refl; within = omega arith; few = omega arith; most = omega arith }

-- one event more
pub further : (s : List ℕ) (g₀ g : Gate) (n at : ℕ) → Counted s g₀ g n at → (e : Event) (p : ℕ) → next_at s at ≡ Play e p
    → (h : Gate) (m : ℕ) → h ≡ followed g e → m ≡ n + opens_at g e → Counted s g₀ h m p
further s g₀ g n at counted e p read h m left more =
    let go = moves s at e p read in
    let f = opens_few g e in
    record {
      same =
          (λ i. going_on (left i) (more i) (rest s p))
          ∙ event_first g n e (rest s p)
          ∙ sym (ap (going_on g n) (rest_reads s at (Play e p) read))
          ∙ counted.same;
      within = go.within;
      few = omega (arith, go.within, go.short);
      most = omega (arith, go.pace, counted.most, more);
    }

-- no event more: the list ends, or is refused
module _ (s : List ℕ) (g₀ g : Gate) (n at : ℕ) (counted : Counted s g₀ g n at) where
  pub whole : (r : Result (Unit {0}) Refused) → rest s at ≡ ending r → is_ok r ≡ true → n ≡ going_on g₀ 0 (parsed s)
  whole (Ok u) end ok = at_end_lem g n ∙ ap (going_on g n) (sym end) ∙ counted.same
  whole (Err x) end ok = cc

  -- no event stands here, and no refusal
  ends : (x : Next) → next_at s at ≡ x → NoEvent x → ((r p : ℕ) → x ≡ Refuses r p → ⊥) → n ≡ going_on g₀ 0 (parsed s)
  ends (Play e p) here none t = absurd none
  ends End here none t = at_end_lem g n ∙ sym (ap (going_on g n) (rest_reads s at End here)) ∙ counted.same
  ends (Refuses r p) here none t = absurd (t r p refl)

  pub ended : (x : Next) → x ≡ next_at s at → NoEvent (next_at s at) → ((r p : ℕ) → x ≡ Refuses r p → ⊥) → n ≡ going_on g₀ 0 (parsed s)
  ended x here none t = ends x (sym here) (subst NoEvent (sym here) none) t

  pub refusing : (r : Result (Unit {0}) Refused) → rest s at ≡ ending r → is_ok r ≡ false → 0 ≡ going_on g₀ 0 (parsed s)
  refusing (Ok u) end ok = cc
  refusing (Err x) end ok = ap (going_on g n) (sym end) ∙ counted.same
