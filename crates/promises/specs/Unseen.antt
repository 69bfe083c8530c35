-- PC2's outside level is seen by TIN, with a source other than 00, and by a read of data C, and by nothing else that opens the gate or
-- answers (01, 'Timer', 'Registers').
use Rattle.std.specs.Prelude.{ℕ, zero, suc, ◌+◌, ◌-◌, ◌/◌, ◌%◌, ◌^◌, ◌<◌, Bool, List, [], ◌∷◌, ◌++◌, ◌≡◌, eqb, ltb, if◌then◌else◌}
use Rattle.std.proofs.Math.Bool.{true, false}
use Rattle.std.proofs.Math.Path.{refl}
use Rattle.std.proofs.Common.{sym, ap, ap₂, subst, ◌∙◌, arith}
use borrow.Author.Tests.{eqb-true, ne_eqb, le-leb, lt-ltb, ltb-true}
use Rattle.std.specs.Int.Bits.{bit_and, bit_or}
use Rattle.std.proofs.lemmas.Nat.{and_shr, and_mod, and_le_l, or_lt}
use Rattle.bits.specs.Choice.{branch}
use Rattle.bits.specs.Field.{bit_of, field_of, with_bit}
use Rattle.bits.specs.Tables.{each, missed}
use Rattle.bits.specs.Trying.{any_below}
use Rattle.event.specs.Map.{PC0, PCDR, TCR, lines}
use Rattle.event.specs.declared.Event.{Event}
use Rattle.event.specs.declared.Event.TheVariants.{Write, Read, PortAcknowledge, TimerAcknowledge, Pin, Clocks, Reset}
use Rattle.port_c.specs.Fresh.{reset_c}
use Rattle.port_c.specs.Pins.{tin, tin_level}
use Rattle.timer.specs.Control.{tcr_bits, source_of, runs_of, clock_steps}
use Rattle.timer.specs.Parts.{with_zds}
use Rattle.timer.specs.Registers.{controlled_of, preloaded_of, cleared_of, reset_of as reset_timer}
use Rattle.timer.specs.Running.{takes_rise, clocked_timer, after, openings, mark}
use Rattle.timer.specs.declared.Timer.{Timer}
use Rattle.clocks.specs.Kept.{after_keeps}
use Rattle.gate.specs.Fresh.{reset_gate}
use Rattle.gate.specs.Parts.{with_timer}
use Rattle.gate.specs.Pins.{with_line, tin_event, line_event, gate_pins, gate_pinned}
use Rattle.gate.specs.Registers.{write_tcr, write_preload, write_tsr, gate_writes, gate_written}
use Rattle.gate.specs.declared.Gate.{Gate}
use Rattle.device.specs.Registers.{read_of}
use Rattle.device.specs.Events.{effect, made}
use Rattle.device.specs.Following.{followed, opens_by, gate_follows, gate_opens, parallel_follows, gate_preload}
use Rattle.device.specs.declared.Device.{Device}
use Rattle.laws.specs.Bits.{with_bit_lem}
use Rattle.laws.specs.Untouched.{no_input}
use Rattle.survey.specs.Needed.{event_clocks}
use Rattle.promises.specs.Kinds.{controlled_tcr}

-- what is written to TCR has source 00
abbrev pub OnClk : Event → Type 0
OnClk (Write r v) = r ≡ TCR → source_of v ≡ 0
OnClk (Read r) = Unit {0}
OnClk PortAcknowledge = Unit {0}
OnClk TimerAcknowledge = Unit {0}
OnClk (Pin n level) = Unit {0}
OnClk (Clocks n) = Unit {0}
OnClk Reset = Unit {0}

-- what is read is not data C
abbrev pub NoDataC : Event → Type 0
NoDataC (Write r v) = Unit {0}
NoDataC (Read r) = r ≡ PCDR → ⊥
NoDataC PortAcknowledge = Unit {0}
NoDataC TimerAcknowledge = Unit {0}
NoDataC (Pin n level) = Unit {0}
NoDataC (Clocks n) = Unit {0}
NoDataC Reset = Unit {0}

-- each of some events is so: with OnClk, source 00 throughout; with NoDataC, no read of data C
abbrev pub Every : (Event → Type 0) → List Event → Type 0
Every P [] = Unit {0}
Every P (e ∷ es) = P e × Every P es

-- TCR's source is as it was written
pub source_holds : (v : ℕ) → source_of (bit_and v tcr_bits) ≡ source_of v
unfolding source_of field_of
source_holds v =
    ap (λ (x : ℕ). x % 4) (and_shr v tcr_bits 1) ∙ and_mod (v / 2) 123 2
    ∙ eqb-true _ _ (any_below 4 (λ x. eqb (bit_and x 3) x) refl (v / 2 % 4) (omega arith))

-- With source 00 a timer runs or not whatever TIN's level is;
blind : (tcr : ℕ) (a b : Bool) → source_of tcr ≡ 0 → runs_of tcr a ≡ runs_of tcr b
unfolding runs_of
blind tcr a b clk = rw clk refl

-- a level at TIN does nothing to it (`laws/specs/Untouched` `no_input`), and a clock does the same
clock_blind : (t : Timer) (a b : Bool) → source_of t.tcr ≡ 0 → clocked_timer a t ≡ clocked_timer b t
unfolding clocked_timer clock_steps takes_rise
clock_blind t a b clk = rw (blind t.tcr a b clk)

clock_source : (t : Timer) (a : Bool) → source_of t.tcr ≡ 0 → source_of (clocked_timer a t).part.tcr ≡ 0
unfolding after
clock_source t a clk = ap source_of (after_keeps a 1 t).tcr ∙ clk

after_blind : (n : ℕ) (t : Timer) (a b : Bool) → source_of t.tcr ≡ 0 → after a n t ≡ after b n t
unfolding after
after_blind zero t a b clk = refl
after_blind (suc n) t a b clk = rw (clock_blind t a b clk) (after_blind n (clocked_timer b t).part a b (clock_source t b clk))

opens_blind : (n k : ℕ) (t : Timer) (a b : Bool) → source_of t.tcr ≡ 0 → openings a n k t ≡ openings b n k t
unfolding openings
opens_blind zero k t a b clk = refl
opens_blind (suc n) k t a b clk =
    rw (clock_blind t a b clk) (ap (mark (clocked_timer b t).opened (suc k)) (opens_blind n (suc k) (clocked_timer b t).part a b (clock_source t b clk)))

-- a byte with one bit at a level is a byte
levelled : (x n : ℕ) (level : Bool) → x < 256 → n < 8 → (if level then bit_or x (2 ^ n) else bit_and x (255 - 2 ^ n)) < 256
levelled x n true l h = or_lt 8 x (2 ^ n) l (ltb-true (2 ^ n) 256 (any_below 8 (λ i. ltb (2 ^ i) 256) refl n h))
levelled x n false l h = omega (arith, and_le_l x (255 - 2 ^ n), l)

pub with_byte : (x n : ℕ) (level : Bool) → x < 256 → with_bit x n level < 256
unfolding with_bit
with_byte x n level l = branch (λ y. y < 256) (ltb n 8) _ x (λ h. levelled x n level l (ltb-true n 8 h)) (λ _. l)

-- two gates with source 00 that differ in PC2's outside level at most
pub record ButTin (g h : Gate) : Type 0 where
  pub source : source_of g.timer.tcr ≡ 0
  pub timer : h.timer ≡ g.timer
  pub direction : h.c.direction ≡ g.c.direction
  pub latch : h.c.latch ≡ g.c.latch
  pub levels : (n : ℕ) → n < lines → (n ≡ tin → ⊥) → bit_of h.c.outside n ≡ bit_of g.c.outside n
  pub bytes : (g.c.outside < 256) × (h.c.outside < 256)

module _ (g h : Gate) (same : ButTin g h) where
  -- with timers that are equal, and have source 00
  timed : (t u : Timer) → u ≡ t → source_of t.tcr ≡ 0 → ButTin (with_timer g t) (with_timer h u)
  timed t u e clk = record { source = clk; timer = e; direction = same.direction; latch = same.latch; levels = same.levels; bytes = same.bytes }

  controlled : (v : ℕ) → source_of (bit_and v tcr_bits) ≡ 0 → controlled_of h.timer v (tin_level h.c) ≡ controlled_of g.timer v (tin_level g.c)
  unfolding controlled_of
  controlled v clk = rw (same.timer, blind (bit_and v tcr_bits) (tin_level h.c) (tin_level g.c) clk)

  tcr_written : (v : ℕ) → source_of v ≡ 0 → ButTin (write_tcr g v) (write_tcr h v)
  unfolding write_tcr
  tcr_written v clk =
      let held : source_of (bit_and v tcr_bits) ≡ 0 = source_holds v ∙ clk in
      timed _ _ (controlled v held) (ap source_of (controlled_tcr g.timer v (tin_level g.c)) ∙ held)

  written : (r v : ℕ) → OnClk (Write r v) → ButTin (gate_written g r v) (gate_written h r v)
  unfolding gate_written write_preload preloaded_of write_tsr cleared_of
  written r v clk =
      let t = same.timer in
      each (λ (x : Gate). ButTin x (gate_written h r v)) (gate_writes g v) g r
      (λ m. rw (missed (gate_writes h v) h r m) same)
      (λ e. rw e (record { source = same.source; timer = t; direction = refl; latch = same.latch; levels = same.levels; bytes = same.bytes }))
      (λ e. rw e (record { source = same.source; timer = t; direction = same.direction; latch = refl; levels = same.levels; bytes = same.bytes }))
      (λ e. rw e (tcr_written v (clk e)))
      (λ e. rw e (timed _ _ (rw t) same.source))
      (λ low high. rw (← gate_preload h r v low high) (timed _ _ (rw t) same.source))
      (λ e. rw e (timed _ _ (rw t) (branch (λ (x : Timer). source_of x.tcr ≡ 0) (bit_of v 0) (with_zds g.timer false) g.timer (λ _. same.source) (λ _. same.source))))

  -- a level at a line of port C
  lined : (n : ℕ) (level : Bool) → ButTin (with_line g n level) (with_line h n level)
  lined n level = record {
    source = same.source;
    timer = same.timer;
    direction = same.direction;
    latch = same.latch;
    levels = λ m l ne. rw (with_bit_lem h.c.outside n m level l, with_bit_lem g.c.outside n m level l, same.levels m l ne);
    bytes = (with_byte g.c.outside n level same.bytes.0, with_byte h.c.outside n level same.bytes.1);
  }

  tin_moved : (level : Bool) → ButTin (tin_event g level) (tin_event h level)
  unfolding tin_event
  tin_moved level =
      rw (no_input g.timer (tin_level g.c) level same.source, no_input h.timer (tin_level h.c) level (rw same.timer same.source))
      (lined tin level)

  line_moved : (n : ℕ) (level : Bool) (here : Bool) → eqb n tin ≡ here → ButTin (line_event g n level) (line_event h n level)
  unfolding line_event
  line_moved n level true e = rw e (tin_moved level)
  line_moved n level false e = rw e (lined n level)

  pin_moved : (n : ℕ) (level : Bool) → ButTin (gate_pinned g n level) (gate_pinned h n level)
  unfolding gate_pinned
  pin_moved n level =
      each (λ (x : Gate). ButTin x (gate_pinned h n level)) (gate_pins g level) g n
      (λ m. rw (missed (gate_pins h level) h n m) same)
      (λ a b. rw (le-leb PC0 n a, lt-ltb n (PC0 + lines) b) (line_moved (n - PC0) level (eqb (n - PC0) tin) refl))

  -- an event with source 00 leaves them so,
  then_but_tin : (e : Event) → OnClk e → ButTin (followed g e) (followed h e)
  unfolding reset_gate reset_c reset_timer source_of field_of
  then_but_tin (Write r v) clk = written r v clk
  then_but_tin (Read r) clk = same
  then_but_tin PortAcknowledge clk = same
  then_but_tin TimerAcknowledge clk = same
  then_but_tin (Pin n level) clk = pin_moved n level
  then_but_tin (Clocks n) clk =
      timed _ _ (rw same.timer (after_blind n g.timer (tin_level h.c) (tin_level g.c) same.source))
      (ap source_of (after_keeps (tin_level g.c) n g.timer).tcr ∙ same.source)
  then_but_tin Reset clk = record { source = refl; timer = rw same.timer; direction = refl; latch = same.latch; levels = same.levels; bytes = same.bytes }

  -- and opens both at the same moments
  open_alike : (k : ℕ) (e : Event) → opens_by h k e ≡ opens_by g k e
  open_alike k (Write r v) = refl
  open_alike k (Read r) = refl
  open_alike k PortAcknowledge = refl
  open_alike k TimerAcknowledge = refl
  open_alike k (Pin n level) = refl
  open_alike k (Clocks n) = rw same.timer (opens_blind n k g.timer (tin_level h.c) (tin_level g.c) same.source)
  open_alike k Reset = refl

-- two devices with source 00 that differ in PC2's outside level at most
pub record Unseen (c d : Device) : Type 0 where
  pub parallel : c.parallel ≡ d.parallel
  pub gate : ButTin d.gate c.gate

module _ (c d : Device) (same : Unseen c d) (k : ℕ) where
  -- an event with source 00 leaves them so,
  pub then_unseen : (e : Event) → OnClk e → Unseen (effect c k e).device (effect d k e).device
  then_unseen e clk = record {
    parallel = parallel_follows c d k e same.parallel;
    gate = rw (gate_follows c k e, gate_follows d k e) (then_but_tin d.gate c.gate same.gate e clk);
  }

  -- and is answered alike, unless it reads data C
  answered : (e : Event) → NoDataC e → (effect c k e).answers ≡ (effect d k e).answers
  unfolding effect read_of
  answered (Write r v) unread = refl
  answered (Read r) unread = rw (same.parallel, same.gate.timer, same.gate.direction, ne_eqb r PCDR unread)
  answered PortAcknowledge unread = rw same.parallel
  answered TimerAcknowledge unread = rw same.gate.timer
  answered (Pin n level) unread = refl
  answered (Clocks n) unread = refl
  answered Reset unread = refl

same_clocks : (c d : Device) (k : ℕ) (e : Event) → (effect c k e).clocks ≡ (effect d k e).clocks
same_clocks c d k e = event_clocks c k e ∙ sym (event_clocks d k e)

-- With source 00 throughout, whatever level PC2 has outside: the same clocks pass, the gate opens at the same moments,
pub opens_unseen : (es : List Event) (c d : Device) (k : ℕ) → Unseen c d → Every OnClk es → (made c k es).openings ≡ (made d k es).openings
unfolding made
opens_unseen [] c d k same clk = refl
opens_unseen (e ∷ es) c d k same clk =
    let next = then_unseen c d same k e clk.0 in
    ap₂ ◌++◌ (gate_opens c k e ∙ open_alike d.gate c.gate same.gate k e ∙ sym (gate_opens d k e))
    (ap (λ (n : ℕ). (made (effect c k e).device n es).openings) (same_clocks c d k e)
    ∙ opens_unseen es (effect c k e).device (effect d k e).device (effect d k e).clocks next clk.1)

-- nothing but that level differs in the end,
pub leaves_unseen : (es : List Event) (c d : Device) (k : ℕ) → Unseen c d → Every OnClk es → Unseen (made c k es).device (made d k es).device
unfolding made
leaves_unseen [] c d k same clk = same
leaves_unseen (e ∷ es) c d k same clk =
    let f = (effect c k e).device in
    let g = (effect d k e).device in
    subst (λ (n : ℕ). Unseen (made f n es).device (made g (effect d k e).clocks es).device) (sym (same_clocks c d k e))
    (leaves_unseen es f g (effect d k e).clocks (then_unseen c d same k e clk.0) clk.1)

-- and where data C is not read either, every answer is the same.
pub answers_unseen : (es : List Event) (c d : Device) (k : ℕ) → Unseen c d → Every OnClk es → Every NoDataC es → (made c k es).answers ≡ (made d k es).answers
unfolding made
answers_unseen [] c d k same clk unread = refl
answers_unseen (e ∷ es) c d k same clk unread =
    let next = then_unseen c d same k e clk.0 in
    ap₂ ◌++◌ (answered c d same k e unread.0)
    (ap (λ (n : ℕ). (made (effect c k e).device n es).answers) (same_clocks c d k e)
    ∙ answers_unseen es (effect c k e).device (effect d k e).device (effect d k e).clocks next clk.1 unread.1)
