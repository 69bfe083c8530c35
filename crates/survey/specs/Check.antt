-- What a list comes to by itself: its refusal, or the answer bytes that it appends and the clocks that it is (01, 'The event list').
use Rattle.std.specs.Prelude.{ℕ, ◌+◌, ◌≡◌, refl, [], Result, Ok, Err}
use Rattle.std.proofs.Common.{sym, ap, zero-add, add-zero, add_assoc}
use Rattle.event.specs.declared.Event.{Event}
use Rattle.wire.specs.List.{Parsed, events, refused, prepend}
use Rattle.wire.specs.Needs.{Needs, answers_in, clocks_in, needs_of}
use Rattle.wire.specs.Told.{number_of, refused_by_one}
use Rattle.wire.specs.declared.refusal.Refused.{Refused as Refusing}
use Rattle.survey.specs.declared.checking.Sums.{Sums}

-- what a list comes to by itself
pub data Checked : Type 0 where
  -- its end, with what it asks for
  Whole : Sums → Checked
  -- a refusal's number and its place
  Refused : ℕ → ℕ → Checked

-- each result of a check, as what the list comes to
abbrev pub told : Result Sums Refusing → Checked
told (Ok sums) = Whole sums
told (Err r) = Refused (number_of r.refusal) r.place

-- one result alone tells it
pub told_by_one : (x y : Result Sums Refusing) → told x ≡ told y → x ≡ y
told_by_one (Ok sums) (Ok others) same = cc
told_by_one (Ok sums) (Err y) same = cc
told_by_one (Err x) (Ok others) same = cc
told_by_one (Err x) (Err y) same =
    let n : number_of x.refusal ≡ number_of y.refusal = cc in
    let p : x.place ≡ y.place = cc in
    ap Err (refused_by_one x y n p)

-- what was summed, and then what events need
abbrev pub summed : ℕ → ℕ → Needs → Checked
summed a k n = Whole (record { answers = a + n.answers; clocks = k + n.clocks })

abbrev pub checked_of : Parsed → Checked
checked_of (events es) = Whole (record { answers = (needs_of es).answers; clocks = (needs_of es).clocks })
checked_of (refused r p) = Refused r p

-- what a check that summed so much makes of what is left
abbrev pub checking_on : ℕ → ℕ → Parsed → Checked
checking_on a k (events es) = summed a k (needs_of es)
checking_on a k (refused r p) = Refused r p

pub from_first : (P : Parsed) → checking_on 0 0 P ≡ checked_of P
from_first (events es) = λ i. Whole (record { answers = zero-add (needs_of es).answers i; clocks = zero-add (needs_of es).clocks i })
from_first (refused r p) = refl

pub event_first : (a k : ℕ) (e : Event) (P : Parsed) → checking_on (a + answers_in e) (k + clocks_in e) P ≡ checking_on a k (prepend e P)
unfolding needs_of
event_first a k e (events es) =
    λ i. Whole (record { answers = add_assoc a (answers_in e) (needs_of es).answers i; clocks = add_assoc k (clocks_in e) (needs_of es).clocks i })
event_first a k e (refused r p) = refl

pub at_end_lem : (a k : ℕ) → Whole (record { answers = a; clocks = k }) ≡ checking_on a k (events [])
unfolding needs_of
at_end_lem a k = λ i. Whole (record { answers = sym (add-zero a) i; clocks = sym (add-zero k) i })
