-- A list that is read event by event: what is ahead of where the reading has come to.
use Rattle.std.specs.Prelude.{◌≡◌, ℕ, List, [], Option, Some, None, Result}
use Rattle.std.specs.Borrow.{Bor}
use Rattle.std.proofs.Common.{sym, ap, subst, ◌∙◌, refl}
use Rattle.event.specs.declared.Event.{Event}
use Rattle.wire.specs.Next.{Next, Play, End, Refused as Refuses, next_at}
use Rattle.wire.specs.Told.{refusal_told}
use Rattle.wire.specs.Word.{NoEvent}
use Rattle.wire.specs.List.{Parsed, events, prepend, follow, rest}
use Rattle.wire.specs.Rest.{rest_reads}
use Rattle.wire.specs.declared.events.Events.{Events}
use Rattle.wire.specs.declared.refusal.Refused.{Refused}

abbrev pub from_first : Bor (List ℕ) → Events
from_first list = record { list = list; at = 0 }

-- all that stands from there on
abbrev pub ahead : Events → Parsed
ahead reading = rest reading.list.now reading.at

-- the event that stands there, with the reading at the first bit after it; or no event does, and the reading stays
abbrev pub GivesEvent : Events → Option Event → Events → Type 0
GivesEvent old (Some e) new = (new.list ≡ old.list) × (next_at old.list.now old.at ≡ Play e new.at)
GivesEvent old None new = (new ≡ old) × NoEvent (next_at old.list.now old.at)

-- the list tells what is given
pub one_event : (old : Events) (x y : Option Event) (new newer : Events) → GivesEvent old x new → GivesEvent old y newer → x ≡ y
one_event old (Some e) (Some f) new newer (same, here) (also, there) = let z : Play e new.at ≡ Play f newer.at = sym here ∙ there in cc
one_event old (Some e) None new newer (same, here) (also, none) = absurd (subst NoEvent here none)
one_event old None (Some f) new newer (same, none) (also, there) = absurd (subst NoEvent there none)
one_event old None None new newer given also = refl

-- and the reading that it leaves
pub one_reading : (old : Events) (x y : Option Event) (new newer : Events) → GivesEvent old x new → GivesEvent old y newer → new ≡ newer
one_reading old (Some e) (Some f) new newer (same, here) (also, there) =
    let list : new.list ≡ newer.list = same ∙ sym also in
    let z : Play e new.at ≡ Play f newer.at = sym here ∙ there in
    let at : new.at ≡ newer.at = cc in
    λ i. record { list = list i; at = at i }
one_reading old (Some e) None new newer (same, here) (also, none) = absurd (subst NoEvent here none)
one_reading old None (Some f) new newer (same, none) (also, there) = absurd (subst NoEvent there none)
one_reading old None None new newer (same, none) (also, neither) = same ∙ sym also

-- the refusal that stands there, or else the end
abbrev pub refusal_in : Next → Next
refusal_in (Play e p) = End
refusal_in End = End
refusal_in (Refuses r p) = Refuses r p

-- what is ahead is that event, and then what is ahead of the new reading
pub event_ahead : (old new : Events) (e : Event) → GivesEvent old (Some e) new → ahead old ≡ prepend e (ahead new)
event_ahead old new e given =
    rest_reads old.list.now old.at (Play e new.at) given.1 ∙ ap (λ (list : Bor (List ℕ)). prepend e (rest list.now new.at)) (sym given.0)

-- what is ahead where no event stands
abbrev pub ending : Result (Unit {0}) Refused → Parsed
ending r = follow (λ p. events []) (refusal_told r)

ends_so : (f : ℕ → Parsed) (n : Next) → NoEvent n → follow f n ≡ follow (λ p. events []) (refusal_in n)
ends_so f (Play e p) none = absurd none
ends_so f End none = refl
ends_so f (Refuses r p) none = refl

-- a reading of a list, and what it then gave
module _ (s : List ℕ) (old new : Events) (of : old.list.now ≡ s) where
  -- an event: it stands there, and the reading is at the first bit after it
  pub event_stands : {e : Event} → GivesEvent old (Some e) new → (new.list.now ≡ s) × (next_at s old.at ≡ Play e new.at)
  event_stands {e} (same, given) = (ap (λ (list : Bor (List ℕ)). list.now) same ∙ of, subst (λ (s : List ℕ). next_at s old.at ≡ Play e new.at) of given)

  -- no event: what is ahead is what the end tells
  pub end_stands : GivesEvent old None new → (r : Result (Unit {0}) Refused) → refusal_told r ≡ refusal_in (next_at new.list.now new.at) → rest s old.at ≡ ending r
  end_stands (same, none) r told =
      let here : next_at new.list.now new.at ≡ next_at s old.at = (λ i. next_at (same i).list.now (same i).at) ∙ ap (λ (s : List ℕ). next_at s old.at) of in
      rest_reads s old.at (next_at s old.at) refl
      ∙ ends_so (rest s) (next_at s old.at) (subst (λ (s : List ℕ). NoEvent (next_at s old.at)) of none)
      ∙ sym (ap (follow (λ p. events [])) (told ∙ ap refusal_in here))
