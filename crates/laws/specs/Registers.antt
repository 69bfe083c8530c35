-- Sentences of 01, 'Registers', each a theorem of its own.
use Rattle.std.specs.Prelude.{◌≡◌, refl, ◌⊎◌, Bool, true, false, not, ◌&&◌, ◌||◌, ℕ, ◌+◌, ◌<◌, ◌≤◌, eqb, ltb, leb, if◌then◌else◌}
use Rattle.std.proofs.Common.{inl, inr, arith, eq-eqb, ne_eqb, leb-true}
use Rattle.std.specs.Bool.{beq}
use Rattle.std.proofs.lemmas.Bool.{false≢true, not-true}
use Rattle.std.specs.Int.Bits.{bit_and}
use Rattle.bits.specs.Choice.{branch, and_left, either}
use Rattle.bits.specs.Field.{bit_of}
use Rattle.bits.specs.Tables.{each}
use Rattle.bits.specs.Trying.{any_bool, any_below_of, ◌and◌}
use Rattle.event.specs.Map.{PGCR, PSRR, PIVR, PADR, PBDR, PAAR, PBAR, PSR, TCR, TIVR, CPRH, CNTRH, TSR, number_bytes}
use Rattle.port.specs.Control.{mode_of, submode_field, handshake_field, enabled_of, rules_of}
use Rattle.port.specs.Parts.{with_control, with_strobe, with_flags}
use Rattle.port.specs.Edges.{restarted_of, flushed_of}
use Rattle.port.specs.Handshaking.{ready_of}
use Rattle.port.specs.Switching.{begins_of, pgcr_written, control_written, flags_cleared_of}
use Rattle.port.specs.declared.Pair.{Pair}
use Rattle.port.specs.declared.Pair.TheVariants.{H12, H34}
use Rattle.port.specs.declared.Rules.{Rules}
use Rattle.port.specs.declared.Strobe.{Strobe}
use Rattle.port.specs.declared.Link.{Link}
use Rattle.port_c.specs.Pins.{tin_level}
use Rattle.timer.specs.Control.{tcr_bits, runs_of}
use Rattle.timer.specs.Registers.{switched_of, controlled_of}
use Rattle.timer.specs.declared.Timer.{Timer}
use Rattle.gate.specs.Registers.{write_tcr}
use Rattle.parallel.specs.Parts.{link_of, with_link, with_links}
use Rattle.parallel.specs.Pins.{asserts_of, with_first, with_second, first_pin, second_pin}
use Rattle.parallel.specs.Switching.{write_pgcr, write_psrr, write_pivr, write_control, write_psr}
use Rattle.parallel.specs.declared.Parallel.{Parallel}
use Rattle.device.specs.Parts.{with_parallel}
use Rattle.device.specs.Places.{read_keeps}
use Rattle.device.specs.Registers.{reads, read_of, writes, write_of}
use Rattle.device.specs.Validity.{valid_of}
use Rattle.device.specs.declared.Device.{Device}
use Rattle.laws.specs.Stays.{valid_in}

-- Unused bits read 0: PSRR bit 7 of a valid device.
pub psrr_unused : (d : Device) → valid_of d ≡ true → bit_of (read_of d PSRR).byte 7 ≡ false
unfolding read_of
psrr_unused d h = not-true _ (valid_in d h).parallel.psrr

-- Unused bits read 0: TCR bit 3 of a valid device.
pub tcr_unused : (d : Device) → valid_of d ≡ true → bit_of (read_of d TCR).byte 3 ≡ false
unfolding read_of
tcr_unused d h = not-true _ (valid_in d h).gate.unused

-- Unused bits read 0: TSR bits 7-1, of every device.
pub tsr_unused : (d : Device) (i : ℕ) → 1 ≤ i → i < 8 → bit_of (read_of d TSR).byte i ≡ false
unfolding read_of bit_of
tsr_unused d i l k =
    let zds = d.gate.timer.phase.zds in
    let tried = (any_bool and any_below_of 8).any (λ x. eqb x.1 0 || not (bit_of (if x.0 then 1 else 0) x.1)) refl (zds, i) (tt, k) in
    not-true _ (either (eqb i 0) _ tried (ne_eqb i 0 (λ e. omega (arith, e))))

-- What is written to TCR, PSRR and PIVR reads back without the unused bits, and PIVR without its lower two.
pub tcr_reads_back : (d : Device) (v : ℕ) → (read_of (write_of d TCR v) TCR).byte ≡ bit_and v 0xf7
unfolding read_of write_of write_tcr controlled_of switched_of
tcr_reads_back d v =
    branch (λ (t : Timer). t.tcr ≡ bit_and v 0xf7) (runs_of (bit_and v tcr_bits) (tin_level d.gate.c)) _ _ (λ _. refl) (λ _. refl)

pub psrr_reads_back : (d : Device) (v : ℕ) → (read_of (write_of d PSRR v) PSRR).byte ≡ bit_and v 0x7f
unfolding read_of write_of write_psrr
psrr_reads_back d v = refl

pub pivr_reads_back : (d : Device) (v : ℕ) → (read_of (write_of d PIVR v) PIVR).byte ≡ bit_and v 0xfc
unfolding read_of write_of write_pivr
pivr_reads_back d v = refl

-- 'All others': none of 0 PGCR to 13 PSR, 16 TCR, 17 TIVR, 19-21 preload, 23-25 count, 26 TSR.
pub record Other (r : ℕ) : Type 0 where
  pub past : PSR < r
  pub tcr : r ≡ TCR → ⊥
  pub tivr : r ≡ TIVR → ⊥
  pub preload : CPRH ≤ r → r < CPRH + number_bytes → ⊥
  pub count : CNTRH ≤ r → r < CNTRH + number_bytes → ⊥
  pub tsr : r ≡ TSR → ⊥

module _ (d : Device) (r : ℕ) (o : Other r) where
  low : {A : Type 0} (n : ℕ) → leb n PSR ≡ true → r ≡ n → A
  low n l e = let m = leb-true n PSR l in absurd (omega (arith, o.past))

  -- All others read 0, and that read changes nothing.
  pub others_read : ((read_of d r).byte ≡ 0) × ((read_of d r).device ≡ d)
  unfolding read_of
  others_read = (
    each (λ (byte : ℕ). byte ≡ 0) (reads d) 0 r (λ _. refl)
        (low 0 refl) (low 1 refl) (low 2 refl) (low 3 refl) (low 4 refl) (low 5 refl) (low 6 refl)
        (low 7 refl) (low 8 refl) (low 9 refl) (low 10 refl) (low 11 refl) (low 12 refl) (low 13 refl)
        (λ e. absurd (o.tcr e))
        (λ e. absurd (o.tivr e))
        (λ a b. absurd (o.preload a b))
        (λ a b. absurd (o.count a b))
        (λ e. absurd (o.tsr e)),
    read_keeps d r (low PADR refl) (low PBDR refl),
  )

  -- All others ignore writes.
  pub others_ignore : (v : ℕ) → write_of d r v ≡ d
  unfolding write_of
  others_ignore v =
      each (λ (x : Device). x ≡ d) (writes d v) d r (λ _. refl)
      (low 0 refl) (low 1 refl) (low 2 refl) (low 3 refl) (low 4 refl) (low 5 refl) (low 6 refl)
      (low 7 refl) (low 8 refl) (low 9 refl) (low 12 refl) (low 13 refl)
      (λ e. absurd (o.tcr e))
      (λ e. absurd (o.tivr e))
      (λ a b. absurd (o.preload a b))
      (λ e. absurd (o.tsr e))

-- Alternates ignore writes.
pub alternates_ignore : (d : Device) (v : ℕ) → (write_of d PAAR v ≡ d) × (write_of d PBAR v ≡ d)
unfolding write_of
alternates_ignore d v = (refl, refl)

-- Count registers, high, mid and low, ignore writes.
pub counts_ignore : (d : Device) (v : ℕ) → (write_of d CNTRH v ≡ d) × (write_of d (CNTRH + 1) v ≡ d) × (write_of d (CNTRH + 2) v ≡ d)
unfolding write_of
counts_ignore d v = (refl, refl, refl)

beq_self : (b : Bool) → beq b b ≡ true
beq_self true = refl
beq_self false = refl

-- Writing ones to PSR clears edge-set flags only: H1S to H4S by bits 0 to 3, and all else is as it was.
pub psr_clears : (d : Device) (v : ℕ) → write_of d PSR v
    ≡ with_parallel d
    (with_links d.parallel
    (with_flags d.parallel.h12 (d.parallel.h12.flag1 && not (bit_of v 0)) (d.parallel.h12.flag2 && not (bit_of v 1)))
    (with_flags d.parallel.h34 (d.parallel.h34.flag1 && not (bit_of v 2)) (d.parallel.h34.flag2 && not (bit_of v 3))))
unfolding write_of write_psr
psr_clears d v = refl

-- A level that a handshake pin has already makes no edge, and nothing else.
pub same_level : (p : Parallel) (pair : Pair) → (first_pin p pair (link_of p pair).level1 ≡ p) × (second_pin p pair (link_of p pair).level2 ≡ p)
unfolding first_pin second_pin with_first with_second asserts_of link_of with_link
same_level p H12 = (rw (beq_self p.h12.level1) refl, rw (beq_self p.h12.level2) refl)
same_level p H34 = (rw (beq_self p.h34.level1) refl, rw (beq_self p.h34.level2) refl)

-- A write of PGCR that leaves the mode field and a pair's enable bit leaves the pair, enabled or not, valid or not.
pub same_mode : (l : Link) (pair : Pair) (old new : ℕ) → mode_of old ≡ mode_of new → enabled_of pair old ≡ enabled_of pair new → pgcr_written l pair old new ≡ l
unfolding pgcr_written
same_mode l pair old new e f = let x : eqb (mode_of old) (mode_of new) ≡ true = eq-eqb _ _ e in rw (x, f, beq_self)

-- Changing sense makes no edge: a write of PGCR that leaves the mode and a pair's enable bit leaves the pair as it was.
pub sense_changed : (d : Device) (pair : Pair) (v : ℕ) → mode_of d.parallel.pgcr ≡ mode_of v → enabled_of pair d.parallel.pgcr ≡ enabled_of pair v
    → link_of (write_of d PGCR v).parallel pair ≡ link_of d.parallel pair
unfolding write_of write_pgcr link_of
sense_changed d H12 v e f = same_mode d.parallel.h12 H12 _ _ e f
sense_changed d H34 v e f = same_mode d.parallel.h34 H34 _ _ e f

-- what no edge came to: no edge flag was set, nothing was stored or taken; at most the pair was emptied
pub record NoEdge (l m : Link) : Type 0 where
  pub first : m.flag1 ≡ true → l.flag1 ≡ true
  pub second : m.flag2 ≡ true → l.flag2 ≡ true
  pub held : (m.held ≡ l.held) ⊎ (m.held ≡ 0)

kept : (l : Link) (control : ℕ) (strobe : Strobe) → NoEdge l (with_strobe (with_control l control) strobe)
kept l control strobe = record { first = λ e. e; second = λ e. e; held = inl refl }

as_was : (l : Link) → NoEdge l l
as_was l = kept l l.control l.strobe

flushed_none : (l : Link) (control : ℕ) (rules : Rules) → NoEdge l (flushed_of (with_control l control) rules)
unfolding flushed_of restarted_of
flushed_none l control rules = record { first = λ e. absurd (false≢true e); second = λ e. absurd (false≢true e); held = inr refl }

begins_none : (l : Link) (rules : Rules) → NoEdge l (begins_of l rules)
unfolding begins_of
begins_none l rules = branch (NoEdge l) (ready_of rules l.held) _ _ (λ _. kept l l.control _) (λ _. as_was l)

pgcr_none : (l : Link) (pair : Pair) (old new : ℕ) → NoEdge l (pgcr_written l pair old new)
unfolding pgcr_written
pgcr_none l pair old new =
    branch (NoEdge l) (eqb (mode_of old) (mode_of new) && beq (enabled_of pair old) (enabled_of pair new)) _ _
    (λ _. as_was l)
    (λ _. branch (NoEdge l) (eqb (mode_of old) (mode_of new) && enabled_of pair new) _ _
    (λ _. begins_none l (rules_of pair new l.control))
    (λ _. flushed_none l l.control (rules_of pair new l.control)))

control_none : (l : Link) (pair : Pair) (pgcr v : ℕ) → NoEdge l (control_written l pair pgcr v)
unfolding control_written restarted_of
control_none l pair pgcr v =
    branch (NoEdge l) (not (eqb (submode_field l.control) (submode_field v))) _ _
    (λ _. flushed_none l v (rules_of pair pgcr v))
    (λ _. branch (NoEdge l) (eqb (handshake_field l.control) (handshake_field v)) _ _
    (λ _. kept l v l.strobe)
    (λ _. branch (NoEdge l) (ltb (handshake_field l.control) 4 && ltb (handshake_field v) 4) _ _
    (λ _. kept l v _)
    (λ _. record { first = λ e. e; second = λ e. absurd (false≢true e); held = inl refl })))

cleared_none : (l : Link) (one two : Bool) → NoEdge l (flags_cleared_of l one two)
cleared_none l one two =
    record { first = λ e. and_left l.flag1 (not one) e; second = λ e. and_left l.flag2 (not two) e; held = inl refl }

-- to neither pair, and every cell as it was
pub record NoEdges (p q : Parallel) : Type 0 where
  pub h12 : NoEdge p.h12 q.h12
  pub h34 : NoEdge p.h34 q.h34
  pub a : q.a.cells ≡ p.a.cells
  pub b : q.b.cells ≡ p.b.cells

pairs_none : (p q : Parallel) → NoEdge p.h12 q.h12 → NoEdge p.h34 q.h34 → q.a.cells ≡ p.a.cells → q.b.cells ≡ p.b.cells → NoEdges p q
pairs_none p q one two a b = record { h12 = one; h34 = two; a = a; b = b }

-- Changing sense or function makes no edge: whatever is written, and to whichever register but data A and data B, is none to a pair.
pub no_edge : (d : Device) (r v : ℕ) → (r ≡ PADR → ⊥) → (r ≡ PBDR → ⊥) → NoEdges d.parallel (write_of d r v).parallel
unfolding write_of write_pgcr write_psrr write_pivr write_control with_link link_of write_psr
no_edge d r v na nb =
    let p = d.parallel in
    let one = as_was p.h12 in
    let two = as_was p.h34 in
    let still = pairs_none p p one two refl refl in
    each (λ (x : Device). NoEdges p x.parallel) (writes d v) d r (λ _. still)
    (λ _. pairs_none p _ (pgcr_none p.h12 H12 p.pgcr v) (pgcr_none p.h34 H34 p.pgcr v) refl refl)
    (λ _. pairs_none p _ one two refl refl)
    (λ _. pairs_none p _ one two refl refl)
    (λ _. pairs_none p _ one two refl refl)
    (λ _. still)
    (λ _. pairs_none p _ one two refl refl)
    (λ _. pairs_none p _ (control_none p.h12 H12 p.pgcr v) two refl refl)
    (λ _. pairs_none p _ one (control_none p.h34 H34 p.pgcr v) refl refl)
    (λ e. absurd (na e))
    (λ e. absurd (nb e))
    (λ _. still)
    (λ _. pairs_none p _ (cleared_none p.h12 (bit_of v 0) (bit_of v 1)) (cleared_none p.h34 (bit_of v 2) (bit_of v 3)) refl refl)
    (λ _. still)
    (λ _. still)
    (λ _ _. still)
    (λ _. still)
