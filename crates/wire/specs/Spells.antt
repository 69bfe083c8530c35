-- What a whole list says: the reader takes it for these events exactly when its bits spell them, one after the other, and then the end.
use Rattle.std.specs.Prelude.{◌≡◌, ℕ, ◌+◌, ◌≤◌, ◌↔◌, List, [], ◌∷◌, length}
use Rattle.std.proofs.Math.Path.{ap, subst}
use Rattle.std.proofs.Common.{◌∙◌, arith}
use Rattle.wire.specs.Field.{bits_in}
use Rattle.wire.specs.Next.{most_bytes, kind_bits, bits_of}
use Rattle.wire.specs.List.{Parsed, events, refused, prepend, rest, parsed}
use Rattle.wire.specs.Finds.{Spelled, Closes, Finds, finds, moves, spelled_plays, closes_ends}
use Rattle.wire.specs.Rest.{rest_reads, each_rest}
use Rattle.event.specs.declared.Event.{Event}
use Rattle.wire.specs.Next.{Play, End}

-- from bit at on stand these events, each where the one before it ends, and then the end mark with its fill
unfoldable pub Spells : List ℕ → ℕ → List Event → Type 0
Spells s at [] = Closes s at
Spells s at (e ∷ es) = Spelled s at e × Spells s (at + bits_of e) es

module _ (s : List ℕ) where
  -- an end mark further on: the list is short enough, and all before the mark is there
  record Room (at : ℕ) : Type 0 where
    short : length s ≤ most_bytes
    within : at + kind_bits ≤ bits_in s

  room : (at : ℕ) (es : List Event) → Spells s at es → Room at
  unfolding Spells
  room at [] c = record { short = c.mark.short; within = c.mark.within }
  room at (e ∷ es) h = let r = room (at + bits_of e) es h.1 in record { short = r.short; within = omega (arith, r.within) }

  -- what is read where an event stands first
  abbrev Told : ℕ → Parsed → Type 0
  Told at (events es) = Spells s at es
  Told at (refused r p) = Unit {0}

  told_first : (at : ℕ) (e : Event) → Spelled s at e → (P : Parsed) → Told (at + bits_of e) P → Told at (prepend e P)
  unfolding Spells
  told_first at e spelled (events es) h = (spelled, h)
  told_first at e spelled (refused r p) h = tt

  told : (at : ℕ) → Told at (rest s at)
  unfolding Spells
  told =
      each_rest s Told
      (λ at read. subst (Finds s at) read (finds s at))
      (λ at r p read. tt)
      (λ at e p read then.
      let go = moves s at e p read in
      told_first at e go.spelled (rest s p) (subst (λ (q : ℕ). Told q (rest s p)) go.after then))

  spells_read : (at : ℕ) (es : List Event) → Spells s at es → rest s at ≡ events es
  unfolding Spells
  spells_read at [] c = rest_reads s at End (closes_ends s at c)
  spells_read at (e ∷ es) h =
      let r = room (at + bits_of e) es h.1 in
      let there : at + bits_of e ≤ bits_in s = omega (arith, r.within) in
      rest_reads s at (Play e (at + bits_of e)) (spelled_plays s at e r.short there h.0)
      ∙ ap (prepend e) (spells_read (at + bits_of e) es h.1)

  -- A list is read as these events exactly when its bits spell them.
  pub list_spells : (es : List Event) → (parsed s ≡ events es) ↔ Spells s 0 es
  list_spells es = ((λ given. subst (Told 0) given (told 0)), spells_read 0 es)
