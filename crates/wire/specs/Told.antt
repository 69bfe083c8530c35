-- What the reader hands back, as the answer that the definition gives: the refusals by 01's numbers.
use Rattle.std.specs.Prelude.{◌≡◌, ℕ, zero, suc, Option, Some, None, Result, Ok, Err}
use Rattle.std.proofs.Common.{sym, ap, ◌∙◌, refl}
use Rattle.event.specs.declared.Event.{Event}
use Rattle.wire.specs.Next.{Next, Play, End, Refused as Refuses}
use Rattle.wire.specs.declared.refusal.Refusal.{Refusal}
use Rattle.wire.specs.declared.refusal.Refusal.TheVariants.{TooLong, CutShort, NoPin, FillSet, ByteFollows, AnswersRoom, OpeningsRoom, InvalidDevice}
use Rattle.wire.specs.declared.refusal.Refused.{Refused}

-- 01's table of refusals: their numbers
abbrev pub number_of : Refusal → ℕ
number_of TooLong = 1
number_of CutShort = 2
number_of NoPin = 3
number_of FillSet = 4
number_of ByteFollows = 5
number_of AnswersRoom = 6
number_of OpeningsRoom = 7
number_of InvalidDevice = 8

-- a refusal and its place
abbrev pub refused_at : Refusal → ℕ → Refused
refused_at r p = record { refusal = r; place = p }

-- an event and the first bit after it, or the end; or a refusal
abbrev pub Reading : Type 0
Reading = Result (Option (Event × ℕ)) Refused

abbrev pub told : Reading → Next
told (Ok (Some (e, p))) = Play e p
told (Ok None) = End
told (Err r) = Refuses (number_of r.refusal) r.place

-- a number is one refusal's
refusal_of : ℕ → Refusal
refusal_of (suc zero) = TooLong
refusal_of (suc (suc zero)) = CutShort
refusal_of (suc (suc (suc zero))) = NoPin
refusal_of (suc (suc (suc (suc zero)))) = FillSet
refusal_of (suc (suc (suc (suc (suc zero))))) = ByteFollows
refusal_of (suc (suc (suc (suc (suc (suc zero)))))) = AnswersRoom
refusal_of (suc (suc (suc (suc (suc (suc (suc zero))))))) = OpeningsRoom
refusal_of n = InvalidDevice

refusal_is : (r : Refusal) → refusal_of (number_of r) ≡ r
unfolding refusal_of
refusal_is TooLong = refl
refusal_is CutShort = refl
refusal_is NoPin = refl
refusal_is FillSet = refl
refusal_is ByteFollows = refl
refusal_is AnswersRoom = refl
refusal_is OpeningsRoom = refl
refusal_is InvalidDevice = refl

-- and so number and place tell which it is
pub refused_by_one : (x y : Refused) → number_of x.refusal ≡ number_of y.refusal → x.place ≡ y.place → x ≡ y
refused_by_one x y number place =
    λ i. refused_at ((sym (refusal_is x.refusal) ∙ ap refusal_of number ∙ refusal_is y.refusal) i) (place i)

-- one answer alone tells what stands there
pub told_by_one : (x y : Reading) → told x ≡ told y → x ≡ y
told_by_one (Ok (Some (e, p))) (Ok (Some (f, q))) same = cc
told_by_one (Ok (Some (e, p))) (Ok None) same = cc
told_by_one (Ok (Some (e, p))) (Err y) same = cc
told_by_one (Ok None) (Ok (Some (f, q))) same = cc
told_by_one (Ok None) (Ok None) same = refl
told_by_one (Ok None) (Err y) same = cc
told_by_one (Err x) (Ok (Some (f, q))) same = cc
told_by_one (Err x) (Ok None) same = cc
told_by_one (Err x) (Err y) same =
    let n : number_of x.refusal ≡ number_of y.refusal = cc in
    let p : x.place ≡ y.place = cc in
    ap Err (refused_by_one x y n p)

-- the same of a result that gives no event
abbrev pub refusal_told : Result (Unit {0}) Refused → Next
refusal_told (Ok u) = End
refusal_told (Err r) = Refuses (number_of r.refusal) r.place

pub refusal_told_by_one : (x y : Result (Unit {0}) Refused) → refusal_told x ≡ refusal_told y → x ≡ y
refusal_told_by_one (Ok u) (Ok v) same = refl
refusal_told_by_one (Ok u) (Err y) same = cc
refusal_told_by_one (Err x) (Ok v) same = cc
refusal_told_by_one (Err x) (Err y) same =
    let n : number_of x.refusal ≡ number_of y.refusal = cc in
    let p : x.place ≡ y.place = cc in
    ap Err (refused_by_one x y n p)
