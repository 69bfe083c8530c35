-- 01's table of refusals, rows 0 to 5, for a whole list: each is given exactly when its row says.
use Rattle.std.specs.Prelude.{◌≡◌, ℕ, zero, suc, ◌+◌, ◌*◌, ◌<◌, ◌≤◌, ◌↔◌, List, [], length, refl}
use Rattle.std.proofs.Common.{sym, ap, ◌∙◌, subst, arith}
use Rattle.wire.specs.Next.{most_bytes, kind_bits, bytes_to, next_at}
use Rattle.wire.specs.List.{Parsed, events, refused, prepend, follow, rest, parsed}
use Rattle.wire.specs.Finds.{CutShort, NoPin, FillSet, ByteFollows, Closes, Row, Finds, finds, row_refuses, closes_ends}
use Rattle.wire.specs.Rest.{rest_reads, each_rest}
use Rattle.event.specs.declared.Event.{Event}
use Rattle.wire.specs.Next.{Next}
use Rattle.wire.specs.Next.{Play, End, Refused}

-- the reader comes to bit 0, and to the first bit after an event read at a bit that it comes to
pub data Reaches (s : List ℕ) : ℕ → Type 0 where
  start : Reaches s 0
  onward : {at : ℕ} {e : Event} {p : ℕ} → Reaches s at → next_at s at ≡ Play e p → Reaches s p

-- what the reader answers last
abbrev last_of : Parsed → Next
last_of (events es) = End
last_of (refused r p) = Refused r p

last_prepend : (e : Event) (P : Parsed) → last_of (prepend e P) ≡ last_of P
last_prepend e (events es) = refl
last_prepend e (refused r p) = refl

-- at a last answer nothing more is read
last_follow : (f : ℕ → Parsed) (P : Parsed) → last_of (follow f (last_of P)) ≡ last_of P
last_follow f (events es) = refl
last_follow f (refused r p) = refl

its_events : (P : Parsed) → last_of P ≡ End → (es : List Event) × (P ≡ events es)
its_events (events es) h = (es, refl)
its_events (refused r p) h = let z : ◌≡◌ {A = ℕ} 0 1 = cc in absurd (omega arith)

its_refusal : (P : Parsed) (r p : ℕ) → last_of P ≡ Refused r p → P ≡ refused r p
its_refusal (events es) r p h = let z : ◌≡◌ {A = ℕ} 0 1 = cc in absurd (omega arith)
its_refusal (refused q o) r p h = cc

module _ (s : List ℕ) where
  abbrev LastAt : Next → Type 0
  LastAt x = (at : ℕ) × Reaches s at × (next_at s at ≡ x)

  -- from a bit that the reader comes to it comes to where it answers last
  comes : (at : ℕ) → Reaches s at → LastAt (last_of (rest s at))
  comes =
      each_rest s (λ at P. Reaches s at → LastAt (last_of P))
      (λ at read here. (at, here, read))
      (λ at r p read here. (at, here, read))
      (λ at e p read then here. subst LastAt (sym (last_prepend e (rest s p))) (then (onward here read)))

  -- wherever the reader comes to, it will answer last what it answers for the whole list
  one_last : {at : ℕ} → Reaches s at → last_of (rest s at) ≡ last_of (parsed s)
  one_last start = refl
  one_last (onward {at} {e} {p} here read) =
      sym (ap last_of (rest_reads s at (Play e p) read) ∙ last_prepend e (rest s p)) ∙ one_last here

  only : (P : Parsed) → LastAt (last_of P) → last_of (parsed s) ≡ last_of P
  only P (at, here, read) = sym (one_last here) ∙ ap last_of (rest_reads s at (last_of P) read) ∙ last_follow (rest s) P

  -- a number and a place are given exactly when their row is found at a bit that the reader comes to
  pub refused_when : (r p : ℕ) → (parsed s ≡ refused r p) ↔ ((at : ℕ) × Reaches s at × Row s at r p)
  refused_when r p = (
    (λ given.
        let f = comes 0 start in
        (f.0, f.1, subst (Finds s f.0) (f.2 ∙ ap last_of given) (finds s f.0))),
    (λ w. its_refusal (parsed s) r p (only (refused r p) (w.0, w.1, row_refuses s w.0 r p w.2))),
  )

  -- 0: 'accepted'. The reader comes to an end mark with zero fill and no byte more
  pub accepted : ((es : List Event) × (parsed s ≡ events es)) ↔ ((at : ℕ) × Reaches s at × Closes s at)
  accepted = (
    (λ given.
        let f = comes 0 start in
        (f.0, f.1, subst (Finds s f.0) (f.2 ∙ ap last_of given.1) (finds s f.0))),
    (λ w. its_events (parsed s) (only (events []) (w.0, w.1, closes_ends s w.0 w.2))),
  )

  module _ (p : ℕ) where
    -- 1: 'more than 16,384 bytes', place 0
    pub refused_too_long : (parsed s ≡ refused 1 p) ↔ ((most_bytes < length s) × (p ≡ 0))
    refused_too_long = ((λ given. ((refused_when 1 p).0 given).2), (λ row. (refused_when 1 p).1 (0, start, row)))

    -- 2: 'fewer bits remain than the next event needs', 'that event's first bit'
    pub refused_cut_short : (parsed s ≡ refused 2 p) ↔ (Reaches s p × CutShort s p)
    refused_cut_short = (
      (λ given. let w = (refused_when 2 p).0 given in subst (λ (q : ℕ). Reaches s q × CutShort s q) (sym w.2.1) (w.1, w.2.0)),
      (λ row. (refused_when 2 p).1 (p, row.0, (row.1, refl))),
    )

    -- 3: 'pin 28 to 31', 'that event's first bit'
    pub refused_no_pin : (parsed s ≡ refused 3 p) ↔ (Reaches s p × NoPin s p)
    refused_no_pin = (
      (λ given. let w = (refused_when 3 p).0 given in subst (λ (q : ℕ). Reaches s q × NoPin s q) (sym w.2.1) (w.1, w.2.0)),
      (λ row. (refused_when 3 p).1 (p, row.0, (row.1, refl))),
    )

    -- 4: 'a fill bit is 1', 'first bit after end'
    pub refused_fill_set : (parsed s ≡ refused 4 p) ↔ ((at : ℕ) × Reaches s at × FillSet s at × (p ≡ at + kind_bits))
    refused_fill_set = (
      (λ given. let w = (refused_when 4 p).0 given in (w.0, w.1, w.2.0, w.2.1)),
      (λ row. (refused_when 4 p).1 (row.0, row.1, (row.2, row.3))),
    )

    -- 5: 'a byte follows the last filled one', 'that byte's first bit'
    pub refused_byte_follows : (parsed s ≡ refused 5 p) ↔ ((at : ℕ) × Reaches s at × ByteFollows s at × (p ≡ bytes_to (at + kind_bits) * 8))
    refused_byte_follows = (
      (λ given. let w = (refused_when 5 p).0 given in (w.0, w.1, w.2.0, w.2.1)),
      (λ row. (refused_when 5 p).1 (row.0, row.1, (row.2, row.3))),
    )

  -- no other number is given for a list alone
  pub one_to_five : (r p : ℕ) → parsed s ≡ refused r p → (1 ≤ r) × (r ≤ 5)
  one_to_five r p given = by r ((refused_when r p).0 given) where
    by : (r : ℕ) → ((at : ℕ) × Reaches s at × Row s at r p) → (1 ≤ r) × (r ≤ 5)
    by zero w = absurd w.2
    by (suc zero) w = (omega arith, omega arith)
    by (suc (suc zero)) w = (omega arith, omega arith)
    by (suc (suc (suc zero))) w = (omega arith, omega arith)
    by (suc (suc (suc (suc zero)))) w = (omega arith, omega arith)
    by (suc (suc (suc (suc (suc zero))))) w = (omega arith, omega arith)
    by (suc (suc (suc (suc (suc (suc r)))))) w = absurd w.2
