-- What each event leaves of a run, from what the event left of the device and what was stored for it.
use Prim.Native.Nat.{ℕ, zero, suc, ◌+◌, ◌-◌, ◌≤◌, ◌<◌}
use mathlib.Core.Path.{◌≡◌, refl, sym, ap, ◌∙◌}
use mathlib.Core.Bool.{Bool, true, false, not, ◌&&◌}
use borrow.Author.Tests.{not-false}
use Rattle.bits.specs.Choice.{and_left, and_right}
use mathlib.Core.List.{List, map}
use native.Mathlib.Nat.{add-zero, mod-eq_of_lt}
use native.Mathlib.Omega.{arith}
use lib.ListN.{length}
use lib.Seq.{sets}
use Rattle.std.specs.Prelude.{Option, Some}
use Rattle.event.specs.Map.{PADR, PBDR, PB0, PC0, H1}
use Rattle.event.specs.declared.Event.TheVariants.{Write, Read, PortAcknowledge, TimerAcknowledge, Pin, Clocks, Reset}
use Rattle.timer.specs.Running.{mark}
use Rattle.timer.specs.declared.Run.{Run}
use Rattle.clocks.specs.Clocks.{numbers, clock_number}
use Rattle.bits.specs.Field.{with_bit}
use Rattle.port.specs.Clocking.{untimed_of}
use Rattle.port.specs.ManyClocks.{untimed_stays}
use Rattle.port.specs.Parts.{with_outside}
use Rattle.port.specs.declared.Pair.TheVariants.{H12, H34}
use Rattle.port.specs.declared.Pair.{Pair}
use Rattle.gate.specs.Ahead.{quiet_gate, passed_gate, regular_gate, opened_gate, gone_gate, moments_gate, quiet_clocks_lem, regular_clocks, moments_many}
use Rattle.gate.specs.Clocking.{gate_after, gate_openings, gate_run}
use Rattle.gate.specs.Pins.{line_event}
use Rattle.gate.specs.declared.Gate.{Gate}
use Rattle.parallel.specs.Clocking.{clocks_of}
use Rattle.parallel.specs.Data.{read_data, write_data}
use Rattle.parallel.specs.Parts.{with_ports, with_links, rules_at}
use Rattle.parallel.specs.Pins.{first_pin, parallel_pinned}
use Rattle.parallel.specs.declared.Parallel.{Parallel}
use Rattle.device.specs.Clocking.{clocked_device, openings}
use Rattle.device.specs.Fresh.{reset_of}
use Rattle.device.specs.Interrupts.{port_acknowledge, timer_acknowledge}
use Rattle.device.specs.ManyClocks.{halves, opens}
use Rattle.device.specs.Parts.{device_with, with_parallel, with_gate}
use Rattle.device.specs.Pins.{pin_of, at_port_c, other_pins}
use Rattle.device.specs.Places.{data_register, first_pin_of, read_data_lem, read_keeps, write_data_lem, at_port_a, at_port_b, at_first}
use Rattle.device.specs.Registers.{read_of, write_of}
use Rattle.device.specs.Events.{Made, answer_bytes, silently, answering, effect}
use Rattle.device.specs.declared.Device.{Device}
use Rattle.device.specs.declared.ReadOut.{ReadOut}
use Rattle.survey.specs.Needed.{two_bytes}

-- a run so far: the device by now, how many answer bytes and openings there were, and how many clocks passed
pub record Tally : Type 0 where
  pub device : Device
  pub answers : ℕ
  pub openings : ℕ
  pub clocks : ℕ

abbrev pub tally : Device → ℕ → ℕ → ℕ → Tally
tally d a o k = record { device = d; answers = a; openings = o; clocks = k }

-- from a tally and what the bytes and the row hold to the next, by what is made
pub record Leaves (t : Tally) (A R : List ℕ) (m : Made) (t' : Tally) (A' R' : List ℕ) : Type 0 where
  pub device : t'.device ≡ m.device
  pub answers : t'.answers ≡ t.answers + length m.answers
  pub openings : t'.openings ≡ t.openings + length m.openings
  pub clocks : t'.clocks ≡ m.clocks
  pub bytes : A' ≡ sets A t.answers m.answers
  pub row : R' ≡ sets R t.openings m.openings

-- where no clock's number is past 32 bits, the numbers are as they are counted
numbers_fit : (n k : ℕ) (d : Device) → k + n < numbers → map clock_number (openings n k d) ≡ openings n k d
unfolding openings
numbers_fit zero k d fits = refl
numbers_fit (suc n) k d fits = marked (clocked_device d).opened (openings n (suc k) (clocked_device d).part) (numbers_fit n (suc k) (clocked_device d).part (omega arith))
  where
    marked : (b : Bool) (l : List ℕ) → map clock_number l ≡ l → map clock_number (mark b (suc k) l) ≡ mark b (suc k) l
    marked true l e = let h : clock_number (suc k) ≡ suc k = mod-eq_of_lt (omega arith) in rw (h, e)
    marked false l e = e

module _ {t : Tally} {A R : List ℕ} where
  -- nothing is answered, and nothing opens
  quiet : {x y : Device} → x ≡ y → Leaves t A R (silently y t.clocks) (tally x t.answers t.openings t.clocks) A R
  quiet p = record {
    device = p;
    answers = sym (add-zero t.answers);
    openings = sym (add-zero t.openings);
    clocks = refl;
    bytes = refl;
    row = refl;
  }

  pub wrote : (r v : ℕ) {x : Device} → x ≡ write_of t.device r v
      → Leaves t A R (effect t.device t.clocks (Write r v)) (tally x t.answers t.openings t.clocks) A R
  unfolding effect
  wrote r v p = quiet p

  -- a write of a data register adds an element to the pair's own buffer
  pub wrote_data : (pair : Pair) (n v : ℕ) → n ≡ data_register pair → {x : Parallel} → x ≡ write_data t.device.parallel pair v
      → Leaves t A R (effect t.device t.clocks (Write n v)) (tally (with_parallel t.device x) t.answers t.openings t.clocks) A R
  wrote_data pair n v here p =
      wrote n v (ap (with_parallel t.device) p ∙ sym (ap (λ (r : ℕ). write_of t.device r v) here ∙ write_data_lem t.device pair v))

  -- a level at a pin of port A or B is remembered there
  pub at_a : (n : ℕ) (level : Bool) {y : ℕ} → n < PB0 → y ≡ with_bit t.device.parallel.a.outside n level
      → Leaves t A R (effect t.device t.clocks (Pin n level))
      (tally (with_parallel t.device (with_ports t.device.parallel (with_outside t.device.parallel.a y) t.device.parallel.b)) t.answers t.openings t.clocks) A R
  unfolding effect
  at_a n level low p =
      quiet (ap (λ (x : ℕ). with_parallel t.device (with_ports t.device.parallel (with_outside t.device.parallel.a x) t.device.parallel.b)) p
      ∙ sym (at_port_a t.device n level low))

  pub at_b : (n : ℕ) (level : Bool) {y : ℕ} → PB0 ≤ n → n < PC0 → y ≡ with_bit t.device.parallel.b.outside (n - PB0) level
      → Leaves t A R (effect t.device t.clocks (Pin n level))
      (tally (with_parallel t.device (with_ports t.device.parallel t.device.parallel.a (with_outside t.device.parallel.b y))) t.answers t.openings t.clocks) A R
  unfolding effect
  at_b n level low high p =
      quiet (ap (λ (x : ℕ). with_parallel t.device (with_ports t.device.parallel t.device.parallel.a (with_outside t.device.parallel.b x))) p
      ∙ sym (at_port_b t.device n level low high))

  -- one at port C comes to the gate
  pub lined : (n : ℕ) (level : Bool) {x : Gate} → PC0 ≤ n → n < H1 → x ≡ line_event t.device.gate (n - PC0) level
      → Leaves t A R (effect t.device t.clocks (Pin n level)) (tally (with_gate t.device x) t.answers t.openings t.clocks) A R
  unfolding effect
  lined n level low high p = quiet (ap (with_gate t.device) p ∙ sym (at_port_c t.device n level low high))

  -- one at the first pin of a pair comes to the pair,
  pub at_pair : (pair : Pair) (n : ℕ) (level : Bool) → n ≡ first_pin_of pair → {x : Parallel} → x ≡ first_pin t.device.parallel pair level
      → Leaves t A R (effect t.device t.clocks (Pin n level)) (tally (with_parallel t.device x) t.answers t.openings t.clocks) A R
  unfolding effect
  at_pair pair n level here p =
      quiet (ap (with_parallel t.device) p ∙ sym (ap (λ (k : ℕ). pin_of t.device k level) here ∙ at_first t.device pair level))

  -- and one at any other pin changes ports and pairs alone
  pub pinned : (n : ℕ) (level : Bool) {x : Parallel} → (PC0 ≤ n → n < H1 → ⊥) → x ≡ parallel_pinned t.device.parallel n level
      → Leaves t A R (effect t.device t.clocks (Pin n level)) (tally (with_parallel t.device x) t.answers t.openings t.clocks) A R
  unfolding effect
  pinned n level another p = quiet (ap (with_parallel t.device) p ∙ sym (other_pins t.device n level another))

  pub was_reset : {x : Device} → x ≡ reset_of t.device
      → Leaves t A R (effect t.device t.clocks Reset) (tally x t.answers t.openings t.clocks) A R
  unfolding effect
  was_reset p = quiet p

  -- two bytes are answered, and nothing opens
  answered : {x y : Device} {a b : Option ℕ} {A' : List ℕ} → x ≡ y → a ≡ b → A' ≡ sets A t.answers (answer_bytes a)
      → Leaves t A R (answering y (answer_bytes b) t.clocks) (tally x (t.answers + 2) t.openings t.clocks) A' R
  answered {b = b} p e q = record {
    device = p;
    answers = ap (λ (n : ℕ). t.answers + n) (sym (two_bytes b));
    openings = sym (add-zero t.openings);
    clocks = refl;
    bytes = q ∙ ap (λ (z : Option ℕ). sets A t.answers (answer_bytes z)) e;
    row = refl;
  }

  was_read : (r : ℕ) {x : Device} {y : ℕ} {A' : List ℕ} → x ≡ (read_of t.device r).device → y ≡ (read_of t.device r).byte
      → A' ≡ sets A t.answers (answer_bytes (Some y))
      → Leaves t A R (effect t.device t.clocks (Read r)) (tally x (t.answers + 2) t.openings t.clocks) A' R
  unfolding effect
  was_read r p e q = answered p (ap Some e) q

  -- a read of a data register removes an element from the pair's own buffer,
  pub read_data_of : (pair : Pair) (n : ℕ) → n ≡ data_register pair → {y : ℕ} {A' : List ℕ} {x : Parallel}
      → y ≡ (read_of t.device n).byte → A' ≡ sets A t.answers (answer_bytes (Some y)) → x ≡ (read_data t.device.parallel pair).parallel
      → Leaves t A R (effect t.device t.clocks (Read n)) (tally (with_parallel t.device x) (t.answers + 2) t.openings t.clocks) A' R
  read_data_of pair n here e q ex =
      was_read n
      (ap (with_parallel t.device) ex
      ∙ ap (λ (o : ReadOut). o.device) (sym (read_data_lem t.device pair) ∙ ap (read_of t.device) (sym here)))
      e q

  -- and one of any other changes nothing
  pub peeked : (r : ℕ) {y : ℕ} {A' : List ℕ} → (r ≡ PADR → ⊥) → (r ≡ PBDR → ⊥) → y ≡ (read_of t.device r).byte
      → A' ≡ sets A t.answers (answer_bytes (Some y))
      → Leaves t A R (effect t.device t.clocks (Read r)) (tally t.device (t.answers + 2) t.openings t.clocks) A' R
  peeked r a b e q = was_read r (sym (read_keeps t.device r a b)) e q

  pub port_acknowledged : {a : Option ℕ} {A' : List ℕ} → a ≡ port_acknowledge t.device → A' ≡ sets A t.answers (answer_bytes a)
      → Leaves t A R (effect t.device t.clocks PortAcknowledge) (tally t.device (t.answers + 2) t.openings t.clocks) A' R
  unfolding effect
  port_acknowledged e q = answered refl e q

  pub timer_acknowledged : {a : Option ℕ} {A' : List ℕ} → a ≡ timer_acknowledge t.device → A' ≡ sets A t.answers (answer_bytes a)
      → Leaves t A R (effect t.device t.clocks TimerAcknowledge) (tally t.device (t.answers + 2) t.openings t.clocks) A' R
  unfolding effect
  timer_acknowledged e q = answered refl e q

  -- clocks change both halves, each by itself, and the gate's openings are the part's
  clocked : (n : ℕ) {x : Parallel} {g : Gate} {m : ℕ} {R' : List ℕ} → t.clocks + n < numbers
      → x ≡ clocks_of n t.device.parallel → g ≡ gate_after n t.device.gate
      → m ≡ length (gate_openings n t.clocks t.device.gate) → R' ≡ sets R t.openings (map clock_number (gate_openings n t.clocks t.device.gate))
      → Leaves t A R (effect t.device t.clocks (Clocks n)) (tally (device_with t.device x g) t.answers (t.openings + m) (t.clocks + n)) A R'
  unfolding effect
  clocked n fits ex eg em er =
      let o = opens n t.clocks t.device in
      record {
        device = (λ i. device_with t.device (ex i) (eg i)) ∙ sym (halves n t.device);
        answers = sym (add-zero t.answers);
        openings = ap (λ (k : ℕ). t.openings + k) (em ∙ ap length (sym o));
        clocks = refl;
        bytes = refl;
        row = er ∙ ap (λ (l : List ℕ). sets R t.openings (map clock_number l)) (sym o) ∙ ap (sets R t.openings) (numbers_fit n t.clocks t.device fits);
      }

  -- with both handshakes after their clocks in place, and the gate as it was
  module _ (n : ℕ) (fits : t.clocks + n < numbers) {d : Device} (here : d ≡ with_parallel t.device (clocks_of n t.device.parallel)) where
    -- where the gate is quiet,
    pub clocked_quietly : {g : Gate} {b : Bool} → b ≡ quiet_gate n d.gate → b ≡ true → g ≡ passed_gate n d.gate
        → Leaves t A R (effect t.device t.clocks (Clocks n)) (tally (with_gate d g) t.answers t.openings (t.clocks + n)) A R
    clocked_quietly {g} {b} eb is eg =
        let same : d.gate ≡ t.device.gate = ap (λ (x : Device). x.gate) here in
        let q = quiet_clocks_lem n t.clocks t.device.gate (ap (quiet_gate n) (sym same) ∙ sym eb ∙ is) in
        let w =
        clocked n fits (ap (λ (x : Device). x.parallel) here) (eg ∙ ap (passed_gate n) same ∙ sym q.0) (ap length (sym q.1))
        (ap (λ (l : List ℕ). sets R t.openings (map clock_number l)) (sym q.1))
        in
        record {
          device = w.device;
          answers = w.answers;
          openings = sym (add-zero t.openings) ∙ w.openings;
          clocks = w.clocks;
          bytes = w.bytes;
          row = w.row;
        }

    -- where it opens at regular clocks,
    pub clocked_regularly : {g : Gate} {b : Bool} {m : ℕ} {R' : List ℕ} → b ≡ regular_gate d.gate → b ≡ true → g ≡ gone_gate n d.gate
        → m ≡ opened_gate n d.gate → R' ≡ sets R t.openings (map clock_number (moments_gate n t.clocks d.gate))
        → Leaves t A R (effect t.device t.clocks (Clocks n)) (tally (with_gate d g) t.answers (t.openings + m) (t.clocks + n)) A R'
    clocked_regularly eb is eg em er =
        let k = t.clocks in
        let same : d.gate ≡ t.device.gate = ap (λ (x : Device). x.gate) here in
        let r = regular_clocks n k t.device.gate (ap regular_gate (sym same) ∙ sym eb ∙ is) in
        clocked n fits (ap (λ (x : Device). x.parallel) here) (eg ∙ ap (gone_gate n) same ∙ sym r.0)
        (em ∙ ap (opened_gate n) same ∙ sym (moments_many n k t.device.gate) ∙ ap length (sym r.1))
        (er ∙ ap (λ (l : List ℕ). sets R t.openings (map clock_number l)) (ap (moments_gate n k) same ∙ sym r.1))

    -- and anywhere,
    pub clocked_through : {y : Run Gate} {R' : List ℕ}
        → (y ≡ gate_run n t.clocks d.gate) × (R' ≡ sets R t.openings (map clock_number (gate_openings n t.clocks d.gate)))
        → Leaves t A R (effect t.device t.clocks (Clocks n)) (tally (with_gate d y.part) t.answers (t.openings + y.used) (t.clocks + n)) A R'
    unfolding gate_run
    clocked_through run =
        let k = t.clocks in
        let same : d.gate ≡ t.device.gate = ap (λ (x : Device). x.gate) here in
        clocked n fits (ap (λ (x : Device). x.parallel) here)
        (ap (λ (y : Run Gate). y.part) run.0 ∙ ap (gate_after n) same)
        (ap (λ (y : Run Gate). y.used) run.0 ∙ ap (λ (g : Gate). length (gate_openings n k g)) same)
        (run.1 ∙ ap (λ (g : Gate). sets R t.openings (map clock_number (gate_openings n k g))) same)

-- handshakes that neither wait nor pulse are as they were after clocks
pub standing : (p : Parallel) (n : ℕ) {one two : Bool} → one ≡ untimed_of p.h12 → two ≡ untimed_of p.h34 → not (one && two) ≡ false → p ≡ clocks_of n p
unfolding clocks_of
standing p n {one} {two} eo et left =
    let still = not-false (one && two) left in
    λ i. with_links p
    (sym (untimed_stays p.h12 (rules_at p H12) n (sym eo ∙ and_left one two still)) i)
    (sym (untimed_stays p.h34 (rules_at p H34) n (sym et ∙ and_right one two still)) i)
