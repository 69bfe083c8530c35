-- What holds of the events of an accepted list, and what they come to.
-- 01, 'The event list': 'at most 16,384 bytes, hence at most 6,898 clocks events and 452,067,328 clocks; clock numbers fit 32 bits'.
use Rattle.std.specs.Prelude.{◌≡◌, ℕ, ◌+◌, ◌*◌, ◌≤◌, List, [], ◌∷◌, length}
use Rattle.std.proofs.Math.Path.{subst}
use native.Mathlib.Omega.{arith}
use Rattle.wire.specs.Field.{bits_in}
use Rattle.wire.specs.Next.{most_bytes, most_clocks, kind_bits, clocks_bits, bits_of}
use Rattle.wire.specs.List.{Parsed, events, refused, prepend, rest, parsed}
use Rattle.wire.specs.Needs.{needs_of}
use Rattle.wire.specs.WellFormed.{IsWellFormed, AllWellFormed, bits_of_all, clocks_event, clocks_bits_lem, most_clocks_lem}
use Rattle.wire.specs.Finds.{Finds, finds, moves}
use Rattle.wire.specs.Rest.{each_rest}
use Rattle.event.specs.declared.Event.{Event}

-- how many clocks events there are
unfoldable pub clocks_events : List Event → ℕ
clocks_events [] = 0
clocks_events (e ∷ es) = clocks_event e + clocks_events es

pub record Totals (s : List ℕ) (es : List Event) : Type 0 where
  pub short : length s ≤ most_bytes
  pub formed : AllWellFormed es
  -- the events, the end mark, and what fills the last byte
  pub bits : bits_of_all es + kind_bits ≤ bits_in s
  pub many : clocks_events es ≤ 6898
  pub clocks : (needs_of es).clocks ≤ 452067328

all_bits : (es : List Event) → (kind_bits + clocks_bits) * clocks_events es ≤ bits_of_all es
unfolding clocks_events bits_of_all
all_bits [] = omega arith
all_bits (e ∷ es) = omega (arith, clocks_bits_lem e, all_bits es)

all_clocks : (es : List Event) → AllWellFormed es → (needs_of es).clocks ≤ most_clocks * clocks_events es
unfolding AllWellFormed clocks_events needs_of
all_clocks [] formed = omega arith
all_clocks (e ∷ es) formed = omega (arith, most_clocks_lem e formed.0, all_clocks es formed.1)

-- events that end a list from bit at on
record Fit (s : List ℕ) (at : ℕ) (es : List Event) : Type 0 where
  short : length s ≤ most_bytes
  formed : AllWellFormed es
  bits : at + bits_of_all es + kind_bits ≤ bits_in s

abbrev Fits : List ℕ → ℕ → Parsed → Type 0
Fits s at (events es) = Fit s at es
Fits s at (refused r p) = Unit {0}

module _ (s : List ℕ) where
  fit_first : (at : ℕ) (e : Event) → IsWellFormed e → (P : Parsed) → Fits s (at + bits_of e) P → Fits s at (prepend e P)
  unfolding AllWellFormed bits_of_all
  fit_first at e formed (events es) f = record { short = f.short; formed = (formed, f.formed); bits = omega arith }
  fit_first at e formed (refused r p) f = tt

  fit : (at : ℕ) → Fits s at (rest s at)
  unfolding AllWellFormed bits_of_all
  fit =
      each_rest s (Fits s)
      (λ at read.
      let c = subst (Finds s at) read (finds s at) in
      record { short = c.mark.short; formed = tt; bits = omega (arith, c.mark.within) })
      (λ at r p read. tt)
      (λ at e p read then.
      let go = moves s at e p read in
      fit_first at e go.formed (rest s p) (subst (λ (q : ℕ). Fits s q (rest s p)) go.after then))

  pub totals : (es : List Event) → parsed s ≡ events es → Totals s es
  totals es given =
      let f = subst (Fits s 0) given (fit 0) in
      let c = all_bits es in
      let k = all_clocks es f.formed in
      record {
        short = f.short;
        formed = f.formed;
        bits = omega arith;
        many = omega arith;
        clocks = omega arith;
      }
