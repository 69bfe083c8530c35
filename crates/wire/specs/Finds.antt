-- What the reader answers at a bit, exactly when: the rows of 01's tables as facts of the list there.
use Rattle.std.specs.Prelude.{◌≡◌, ℕ, zero, suc, ◌+◌, ◌-◌, ◌*◌, ◌<◌, ◌≤◌, ◌↔◌, List, length, ◌==◌, nat_eq, nat_lt}
use Rattle.std.proofs.Math.Path.{refl, ap, subst}
use Rattle.std.proofs.Common.{sym, ◌∙◌}
use native.Mathlib.Omega.{arith}
use borrow.Author.Tests.{ltb-true, ltb-false, lt-ltb, le-ltb}
use Rattle.bits.specs.Choice.{branch}
use Rattle.wire.specs.Field.{bits_in, bit_at, field_at, field_lt, field_zero_bits, bits_zero_field, field_set_bit, bit_set_field}
use Rattle.wire.specs.Splitting.{one_bit}
use Rattle.wire.specs.Next.{most_bytes, last_pin, most_clocks, kind_bits, register_bits, value_bits, pin_bits, clocks_bits, kind_at, register_at, value_at, pin_at, level_at, clocks_at, size_of}
use Rattle.wire.specs.Next.{bytes_to, fill_at, close_at, pin_or_refusal, event_at, next_at, bits_of, too_long, cut_short, all_there}
use Rattle.wire.specs.Needs.{clocks_in}
use Rattle.wire.specs.WellFormed.{IsWellFormed, three_bits, few_clocks, paced}
use Rattle.event.specs.declared.Event.{Event}
use Rattle.event.specs.declared.Event.TheVariants.{Write, Read, PortAcknowledge, TimerAcknowledge, Pin, Clocks, Reset}
use Rattle.wire.specs.Next.{Next}
use Rattle.wire.specs.Next.{Play, End, Refused}

-- 01's table of kinds: the bits from bit at on spell event e, its kind first and then its fields, most significant bit first.
-- Kind 7, the end, is EndMark below
abbrev pub Spelled : List ℕ → ℕ → Event → Type 0
Spelled s at (Write r v) = (kind_at s at ≡ 0) × (r ≡ register_at s at) × (v ≡ value_at s at)
Spelled s at (Read r) = (kind_at s at ≡ 1) × (r ≡ register_at s at)
Spelled s at PortAcknowledge = kind_at s at ≡ 2
Spelled s at TimerAcknowledge = kind_at s at ≡ 3
Spelled s at (Pin n level) = (kind_at s at ≡ 4) × (n ≡ pin_at s at) × (n ≤ last_pin) × (level ≡ (bit_at s (at + kind_bits + pin_bits) == 1))
Spelled s at (Clocks n) = (kind_at s at ≡ 5) × (n ≡ clocks_at s at)
Spelled s at Reset = kind_at s at ≡ 6

-- an event was read at bit at, and p is the first bit after it
pub record Moves (s : List ℕ) (at : ℕ) (e : Event) (p : ℕ) : Type 0 where
  pub short : length s ≤ most_bytes
  pub spelled : Spelled s at e
  pub after : p ≡ at + bits_of e
  pub within : p ≤ bits_in s
  pub formed : IsWellFormed e
  pub forward : at + kind_bits ≤ p
  pub few : clocks_in e ≤ most_clocks
  pub pace : (kind_bits + clocks_bits) * clocks_in e + most_clocks * at ≤ most_clocks * p

-- 2: 'fewer bits remain than the next event needs'
pub record CutShort (s : List ℕ) (at : ℕ) : Type 0 where
  pub short : length s ≤ most_bytes
  pub lacking : bits_in s < at + size_of (kind_at s at)

-- 3: 'pin 28 to 31', of a pin event (kind 4) that is all there
pub record NoPin (s : List ℕ) (at : ℕ) : Type 0 where
  pub short : length s ≤ most_bytes
  pub kind : kind_at s at ≡ 4
  pub within : at + size_of 4 ≤ bits_in s
  pub pin : last_pin < pin_at s at

-- the end mark (kind 7), all of it there
pub record EndMark (s : List ℕ) (at : ℕ) : Type 0 where
  pub short : length s ≤ most_bytes
  pub kind : kind_at s at ≡ 7
  pub within : at + kind_bits ≤ bits_in s

-- 'After end, zero bits fill the last byte'; end is the first bit after the end mark
abbrev pub ZeroFill : List ℕ → ℕ → Type 0
ZeroFill s end = (i : ℕ) → end ≤ i → i < bytes_to end * 8 → bit_at s i ≡ 0

-- 4: 'a fill bit is 1'
pub record FillSet (s : List ℕ) (at : ℕ) : Type 0 where
  pub mark : EndMark s at
  pub bit : ℕ
  pub from : at + kind_bits ≤ bit
  pub below : bit < bytes_to (at + kind_bits) * 8
  pub one : bit_at s bit ≡ 1

-- 5: 'a byte follows the last filled one'
pub record ByteFollows (s : List ℕ) (at : ℕ) : Type 0 where
  pub mark : EndMark s at
  pub fill : ZeroFill s (at + kind_bits)
  pub follows : bytes_to (at + kind_bits) < length s

-- the end: its mark, zero fill, and no byte more
pub record Closes (s : List ℕ) (at : ℕ) : Type 0 where
  pub mark : EndMark s at
  pub fill : ZeroFill s (at + kind_bits)
  pub last : bytes_to (at + kind_bits) ≡ length s

-- 01's table of refusals: for number r what is found, and its place p
abbrev pub Row : List ℕ → ℕ → ℕ → ℕ → Type 0
Row s at zero p = ⊥
Row s at (suc zero) p = (most_bytes < length s) × (p ≡ 0)
Row s at (suc (suc zero)) p = CutShort s at × (p ≡ at)
Row s at (suc (suc (suc zero))) p = NoPin s at × (p ≡ at)
Row s at (suc (suc (suc (suc zero)))) p = FillSet s at × (p ≡ at + kind_bits)
Row s at (suc (suc (suc (suc (suc zero))))) p = ByteFollows s at × (p ≡ bytes_to (at + kind_bits) * 8)
Row s at (suc (suc (suc (suc (suc (suc r)))))) p = ⊥

abbrev pub Finds : List ℕ → ℕ → Next → Type 0
Finds s at (Play e p) = Moves s at e p
Finds s at End = Closes s at
Finds s at (Refused r p) = Row s at r p

-- the level is a bit
level_bit : (s : List ℕ) (at : ℕ) → level_at s at ≡ (bit_at s (at + kind_bits + pin_bits) == 1)
level_bit s at = ap (λ (x : ℕ). nat_eq x 1) (one_bit s (at + kind_bits + pin_bits))

-- the fill as a number, and its bits
module _ (s : List ℕ) (end : ℕ) where
  fill_zero : fill_at s end ≡ 0 → ZeroFill s end
  fill_zero none i from below =
      let e : end + (i - end) ≡ i = omega arith in
      subst (λ (j : ℕ). bit_at s j ≡ 0) e (field_zero_bits s end (bytes_to end * 8 - end) none (i - end) (omega arith))

  zero_fill : ZeroFill s end → fill_at s end ≡ 0
  zero_fill each = bits_zero_field s end (bytes_to end * 8 - end) (λ i l. each (end + i) (omega arith) (omega arith))

  fill_one : (i : ℕ) → end ≤ i → i < bytes_to end * 8 → bit_at s i ≡ 1 → 0 < fill_at s end
  fill_one i from below one =
      let e : i ≡ end + (i - end) = omega arith in
      bit_set_field s end (bytes_to end * 8 - end) (i - end) (omega arith) (subst (λ (j : ℕ). bit_at s j ≡ 1) e one)

module _ (s : List ℕ) (at : ℕ) (short : length s ≤ most_bytes) where
  moved : (e : Event) → Spelled s at e → IsWellFormed e → at + bits_of e ≤ bits_in s → Moves s at e (at + bits_of e)
  moved e spelled formed there =
      record {
        short = short;
        spelled = spelled;
        after = refl;
        within = there;
        formed = formed;
        forward = omega (arith, three_bits e);
        few = few_clocks e formed;
        pace = omega (arith, paced e formed);
      }

  pinned : kind_at s at ≡ 4 → at + size_of 4 ≤ bits_in s → Finds s at (pin_or_refusal s at (at + size_of 4))
  unfolding pin_or_refusal
  pinned kind there =
      branch (Finds s at) (nat_lt last_pin (pin_at s at)) _ _
      (λ t. (record { short = short; kind = kind; within = there; pin = ltb-true _ _ t }, refl))
      (λ t.
      let listed : pin_at s at ≤ last_pin = ltb-false _ _ t in
      moved (Pin (pin_at s at) (level_at s at)) (kind, refl, listed, level_bit s at) listed there)

  closed : kind_at s at ≡ 7 → at + kind_bits ≤ bits_in s → Finds s at (close_at s (at + kind_bits))
  unfolding close_at
  closed kind there =
      let mark : EndMark s at = record { short = short; kind = kind; within = there } in
      let end = at + kind_bits in
      branch (Finds s at) (nat_lt 0 (fill_at s end)) _ _
      (λ t.
      let w = field_set_bit s end (bytes_to end * 8 - end) (ltb-true _ _ t) in
      let set : FillSet s at = record { mark = mark; bit = end + w.0; from = omega arith; below = omega (arith, w.1); one = w.2 } in
      (set, refl))
      (λ t.
      let none : fill_at s end ≤ 0 = ltb-false _ _ t in
      let fill = fill_zero s end (omega arith) in
      branch (Finds s at) (nat_lt (bytes_to end) (length s)) _ _
      (λ u. (record { mark = mark; fill = fill; follows = ltb-true _ _ u }, refl))
      (λ u. let most : length s ≤ bytes_to end = ltb-false _ _ u in record { mark = mark; fill = fill; last = omega arith }))

  by_kind : (k : ℕ) → kind_at s at ≡ k → at + size_of k ≤ bits_in s → Finds s at (event_at s at (at + size_of k) k)
  unfolding event_at size_of
  by_kind zero kind there =
      moved (Write (register_at s at) (value_at s at)) (kind, refl, refl)
      (field_lt s (at + kind_bits) register_bits, field_lt s (at + kind_bits + register_bits) value_bits)
      there
  by_kind (suc zero) kind there = moved (Read (register_at s at)) (kind, refl) (field_lt s (at + kind_bits) register_bits) there
  by_kind (suc (suc zero)) kind there = moved PortAcknowledge kind tt there
  by_kind (suc (suc (suc zero))) kind there = moved TimerAcknowledge kind tt there
  by_kind (suc (suc (suc (suc zero)))) kind there = pinned kind there
  by_kind (suc (suc (suc (suc (suc zero))))) kind there =
      let f : field_at s (at + kind_bits) clocks_bits < most_clocks = field_lt s (at + kind_bits) clocks_bits in
      moved (Clocks (clocks_at s at)) (kind, refl) (omega arith, omega arith) there
  by_kind (suc (suc (suc (suc (suc (suc zero)))))) kind there = moved Reset kind tt there
  by_kind (suc (suc (suc (suc (suc (suc (suc zero))))))) kind there = closed kind there
  by_kind (suc (suc (suc (suc (suc (suc (suc (suc k)))))))) kind there =
      let below : kind_at s at < 8 = field_lt s at kind_bits in
      absurd (omega arith)

  -- what stands there, the kind being known
  of_kind : (k : ℕ) → kind_at s at ≡ k → at + size_of k ≤ bits_in s → next_at s at ≡ event_at s at (at + size_of k) k
  of_kind k kind there =
      all_there s at short (subst (λ (x : ℕ). at + size_of x ≤ bits_in s) (sym kind) there)
      ∙ ap (λ (x : ℕ). event_at s at (at + size_of x) x) kind

-- an answer tells what is found
pub finds : (s : List ℕ) (at : ℕ) → Finds s at (next_at s at)
unfolding next_at
finds s at =
    branch (Finds s at) (nat_lt most_bytes (length s)) _ _
    (λ t. (ltb-true _ _ t, refl))
    (λ t.
    branch (Finds s at) (nat_lt (bits_in s) (at + size_of (kind_at s at))) _ _
    (λ u. (record { short = ltb-false _ _ t; lacking = ltb-true _ _ u }, refl))
    (λ u. by_kind s at (ltb-false _ _ t) (kind_at s at) refl (ltb-false _ _ u)))

module _ (s : List ℕ) (at : ℕ) where
  pub moves : (e : Event) (p : ℕ) → next_at s at ≡ Play e p → Moves s at e p
  moves e p read = subst (Finds s at) read (finds s at)

  -- bits that spell an event, all of it there, are read as that event
  pub spelled_plays : (e : Event) → length s ≤ most_bytes → at + bits_of e ≤ bits_in s → Spelled s at e → next_at s at ≡ Play e (at + bits_of e)
  unfolding event_at pin_or_refusal
  spelled_plays (Write r v) short there (kind, register, value) = of_kind s at short 0 kind there ∙ simp (register, value)
  spelled_plays (Read r) short there (kind, register) = of_kind s at short 1 kind there ∙ simp (register)
  spelled_plays PortAcknowledge short there kind = of_kind s at short 2 kind there
  spelled_plays TimerAcknowledge short there kind = of_kind s at short 3 kind there
  spelled_plays (Pin n level) short there (kind, pin, listed, high) =
      let below : pin_at s at ≤ last_pin = subst (λ (x : ℕ). x ≤ last_pin) pin listed in
      of_kind s at short 4 kind there ∙ simp (le-ltb last_pin (pin_at s at) below, pin, high, level_bit s at)
  spelled_plays (Clocks n) short there (kind, clocks) = of_kind s at short 5 kind there ∙ simp (clocks)
  spelled_plays Reset short there kind = of_kind s at short 6 kind there

  -- the end mark: what stands there is what follows it
  marked : EndMark s at → next_at s at ≡ close_at s (at + kind_bits)
  unfolding event_at size_of
  marked mark = of_kind s at mark.short 7 mark.kind mark.within

  -- what is found gives the answer
  pub row_refuses : (r p : ℕ) → Row s at r p → next_at s at ≡ Refused r p
  unfolding event_at pin_or_refusal close_at
  row_refuses zero p row = absurd row
  row_refuses (suc zero) p row = too_long s at row.0 ∙ ap (Refused 1) (sym row.1)
  row_refuses (suc (suc zero)) p row = cut_short s at row.0.short row.0.lacking ∙ ap (Refused 2) (sym row.1)
  row_refuses (suc (suc (suc zero))) p row =
      of_kind s at row.0.short 4 row.0.kind row.0.within
      ∙ simp (lt-ltb last_pin (pin_at s at) row.0.pin, row.1)
  row_refuses (suc (suc (suc (suc zero)))) p row =
      let f = row.0 in
      marked f.mark
      ∙ simp (lt-ltb 0 (fill_at s (at + kind_bits)) (fill_one s (at + kind_bits) f.bit f.from f.below f.one), row.1)
  row_refuses (suc (suc (suc (suc (suc zero))))) p row =
      marked row.0.mark
      ∙ simp (zero_fill s (at + kind_bits) row.0.fill, lt-ltb (bytes_to (at + kind_bits)) (length s) row.0.follows, row.1)
  row_refuses (suc (suc (suc (suc (suc (suc r)))))) p row = absurd row

  pub closes_ends : Closes s at → next_at s at ≡ End
  unfolding close_at
  closes_ends c =
      let full : length s ≤ bytes_to (at + kind_bits) = omega (arith, c.last) in
      marked c.mark
      ∙ simp (zero_fill s (at + kind_bits) c.fill, le-ltb (bytes_to (at + kind_bits)) (length s) full)

  -- Each answer of the reader, exactly when: an event where its bits stand, the end and each refusal where their rows say.
  pub reads_exactly : (x : Next) → (next_at s at ≡ x) ↔ Finds s at x
  reads_exactly x = ((λ read. subst (Finds s at) read (finds s at)), found x) where
    found : (x : Next) → Finds s at x → next_at s at ≡ x
    found (Play e p) m =
        let there : at + bits_of e ≤ bits_in s = subst (λ (q : ℕ). q ≤ bits_in s) m.after m.within in
        spelled_plays e m.short there m.spelled ∙ ap (Play e) (sym m.after)
    found End c = closes_ends c
    found (Refused r p) row = row_refuses r p row
