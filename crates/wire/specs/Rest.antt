-- Reading goes from event to event: laws of the rest of a list, free of how many events are tried.
use Rattle.std.specs.Prelude.{◌≡◌, ℕ, zero, suc, ◌+◌, ◌-◌, ◌<◌, ◌≤◌, List, [], refl}
use Rattle.std.proofs.Common.{sym, ap, ◌∙◌, subst, arith}
use Rattle.wire.specs.Field.{bits_in}
use Rattle.wire.specs.Next.{next_at}
use Rattle.wire.specs.List.{Parsed, events, refused, prepend, follow, parse, rest}
use Rattle.wire.specs.Finds.{moves}
use Rattle.event.specs.declared.Event.{Event}
use Rattle.wire.specs.Next.{Next}
use Rattle.wire.specs.Next.{Play, End, Refused}

module _ (s : List ℕ) where
  -- two ways to go on that agree after the event at a bit agree there
  same_follow : (f g : ℕ → Parsed) (at : ℕ) → ((e : Event) (p : ℕ) → next_at s at ≡ Play e p → f p ≡ g p) → follow f (next_at s at) ≡ follow g (next_at s at)
  same_follow f g at same = by (next_at s at) refl where
    by : (x : Next) → next_at s at ≡ x → follow f x ≡ follow g x
    by (Play e p) read = ap (prepend e) (same e p read)
    by End read = refl
    by (Refused r p) read = refl

  -- more tries than bits are left read the same
  enough : (n m at : ℕ) → bits_in s < at + n → bits_in s < at + m → at ≤ bits_in s → parse s n at ≡ parse s m at
  unfolding parse
  enough zero m at p q within = absurd (omega arith)
  enough (suc n) zero at p q within = absurd (omega arith)
  enough (suc n) (suc m) at p q within =
      same_follow (parse s n) (parse s m) at
      (λ e after read. let go = moves s at e after read in enough n m after (omega arith) (omega arith) go.within)

  -- the rest is what stands first, and then the rest from there
  rest_follows : (at : ℕ) → rest s at ≡ follow (rest s) (next_at s at)
  unfolding parse rest
  rest_follows at =
      same_follow (parse s (bits_in s - at)) (rest s) at
      (λ e after read. let go = moves s at e after read in enough (bits_in s - at) (suc (bits_in s - after)) after (omega arith) (omega arith) go.within)

  pub rest_reads : (at : ℕ) (x : Next) → next_at s at ≡ x → rest s at ≡ follow (rest s) x
  rest_reads at x read = rest_follows at ∙ ap (follow (rest s)) read

  -- what holds of the end and of each refusal where it stands, and of an event with the rest if of the rest, holds of each rest
  module _ (holds : ℕ → Parsed → Type 0) (at_end_lem : (at : ℕ) → next_at s at ≡ End → holds at (events []))
      (at-refusal : (at r p : ℕ) → next_at s at ≡ Refused r p → holds at (refused r p))
      (at-event : (at : ℕ) (e : Event) (p : ℕ) → next_at s at ≡ Play e p → holds p (rest s p) → holds at (prepend e (rest s p))) where
    one_more : (at : ℕ) → ((e : Event) (p : ℕ) → next_at s at ≡ Play e p → holds p (rest s p)) → holds at (rest s at)
    one_more at then = by (next_at s at) refl where
      by : (x : Next) → next_at s at ≡ x → holds at (rest s at)
      by (Play e p) read = subst (holds at) (sym (rest_reads at (Play e p) read)) (at-event at e p read (then e p read))
      by End read = subst (holds at) (sym (rest_reads at End read)) (at_end_lem at read)
      by (Refused r p) read = subst (holds at) (sym (rest_reads at (Refused r p) read)) (at-refusal at r p read)

    so_far : (n at : ℕ) → bits_in s < at + n → holds at (rest s at)
    so_far zero at left = one_more at (λ e p read. let go = moves s at e p read in absurd (omega arith))
    so_far (suc n) at left = one_more at (λ e p read. let go = moves s at e p read in so_far n p (omega arith))

    pub each_rest : (at : ℕ) → holds at (rest s at)
    each_rest at = so_far (suc (bits_in s)) at (omega arith)
