-- TIN idles low (02, R-6): a fresh device has PC2's outside level low, where 01 had it high. Who states its level before it is looked at sees
-- what was seen before.
use Rattle.std.specs.Prelude.{ℕ, ◌<◌, Bool, true, false, List, [], ◌∷◌, ◌++◌, ◌≡◌, refl, eqb, ltb, length}
use Rattle.std.proofs.lemmas.Bool.{false≢true}
use Rattle.std.proofs.Common.{sym, ap, ◌∙◌, eqb-true, ne_eqb, arith}
use Rattle.bits.specs.Choice.{both_arms}
use Rattle.bits.specs.Field.{bit_of, with_bit, packed_of, field_of}
use Rattle.bits.specs.Trying.{any_below}
use Rattle.event.specs.declared.Event.{Event}
use Rattle.event.specs.declared.Event.TheVariants.{Pin}
use Rattle.port.specs.Fresh.{fresh_port, fresh_link}
use Rattle.port_c.specs.Fresh.{fresh_c}
use Rattle.port_c.specs.Pins.{tin, tin_level}
use Rattle.timer.specs.Control.{source_of, runs_of}
use Rattle.timer.specs.Registers.{fresh_timer}
use Rattle.timer.specs.Running.{tin_goes}
use Rattle.wire.specs.List.{events, parsed}
use Rattle.gate.specs.Fresh.{fresh_gate}
use Rattle.gate.specs.Pins.{with_line, tin_event, line_event, gate_pinned}
use Rattle.parallel.specs.Fresh.{fresh_parallel}
use Rattle.parallel.specs.Pins.{parallel_pinned}
use Rattle.device.specs.Events.{Made, silently, joined, effect, made}
use Rattle.device.specs.Fresh.{fresh_device}
use Rattle.device.specs.Parts.{with_gate}
use Rattle.device.specs.Pinned.{pinned}
use Rattle.device.specs.Pins.{pin_of}
use Rattle.device.specs.Validity.{valid_of}
use Rattle.device.specs.declared.Device.{Device}
use Rattle.laws.specs.Bits.{with_bit_lem}
use Rattle.laws.specs.Fresh.{outside_of}
use Rattle.laws.specs.Stays.{fresh_valid, list_stays}
use Rattle.laws.specs.Touching.{tin_pin}
use Rattle.laws.specs.Untouched.{no_input}
use Rattle.play.specs.Play.{Result, refusal, settled, play_of}
use Rattle.survey.specs.Needed.{clocks_passed}
use Rattle.promises.specs.Prefixes.{prefix}
use Rattle.promises.specs.Unseen.{OnClk, NoDataC, Every, Unseen, with_byte, opens_unseen, leaves_unseen, answers_unseen}

-- the fresh device as 01 has it, with PC2's outside level high
abbrev pub all_high : Device
all_high = with_gate fresh_device (with_line fresh_device.gate tin true)

-- and so 'every outside level high'
pub all_high_lem : (n : ℕ) → n < 28 → outside_of all_high n ≡ true
unfolding outside_of pinned fresh_device fresh_parallel fresh_port fresh_link fresh_gate fresh_c bit_of with_bit
all_high_lem n l = any_below 28 (outside_of all_high) refl n l

-- PC2 high makes a fresh device that one, and nothing is seen of it: the two are equal after that event.
pub high_makes : (k : ℕ) → effect fresh_device k (Pin tin_pin true) ≡ silently all_high k
unfolding effect pin_of parallel_pinned gate_pinned line_event tin_event tin_goes runs_of bit_of fresh_device fresh_gate fresh_timer fresh_c tin_level
high_makes k = refl

-- So a list that is put behind PC2 high opens, answers and leaves on a fresh device what it did on that one, whatever it gates by.
pub behind_high : (es : List Event) (k : ℕ) → made fresh_device k (Pin tin_pin true ∷ es) ≡ made all_high k es
unfolding made
behind_high es k = rw (high_makes k)

-- Until PC2 is looked at nothing tells the two apart.
pub fresh_unseen : Unseen fresh_device all_high
unfolding fresh_device fresh_gate fresh_timer fresh_c source_of field_of
fresh_unseen = record {
  parallel = refl;
  gate = record {
    source = refl;
    timer = refl;
    direction = refl;
    latch = refl;
    levels = λ n l ne. sym (rw (ne_eqb tin n (λ e. ne (sym e))) at (with_bit_lem 0xfb tin n true l));
    bytes = (with_byte 0xfb tin true (omega arith), omega arith);
  };
}

-- a byte is its eight bits
abbrev repacked : ℕ → ℕ
repacked x = packed_of (bit_of x 7) (bit_of x 6) (bit_of x 5) (bit_of x 4) (bit_of x 3) (bit_of x 2) (bit_of x 1) (bit_of x 0)

bits_of : (x : ℕ) → x < 256 → repacked x ≡ x
unfolding packed_of bit_of
bits_of x l = eqb-true _ _ (any_below 256 (λ x. eqb (repacked x) x) refl x l)

same_bits : (x y : ℕ) → x < 256 → y < 256 → ((n : ℕ) → n < 8 → bit_of x n ≡ bit_of y n) → x ≡ y
same_bits x y l m same =
    let b7 = same 7 (omega arith) in
    let b6 = same 6 (omega arith) in
    let b5 = same 5 (omega arith) in
    let b4 = same 4 (omega arith) in
    let b3 = same 3 (omega arith) in
    let b2 = same 2 (omega arith) in
    let b1 = same 1 (omega arith) in
    let b0 = same 0 (omega arith) in
    sym (bits_of x l) ∙ (rw (b7, b6, b5, b4, b3, b2, b1, b0) (bits_of y m))

-- Two devices that differ in PC2's level at most are equal once it is stated, and nothing is seen of that.
pub stated_makes : (c d : Device) (k : ℕ) (level : Bool) → Unseen c d → effect c k (Pin tin_pin level) ≡ effect d k (Pin tin_pin level)
unfolding effect pin_of parallel_pinned gate_pinned line_event tin_event
stated_makes c d k level same =
    let b = same.gate in
    rw (
      no_input d.gate.timer (tin_level d.gate.c) level b.source,
      no_input c.gate.timer (tin_level c.gate.c) level (rw b.timer b.source),
      same.parallel,
      b.timer,
      b.direction,
      b.latch,
      outside,
    ) refl
  where
    level_at : (n : ℕ) → n < 8 → (here : Bool) → eqb tin n ≡ here → bit_of (with_bit c.gate.c.outside tin level) n ≡ bit_of (with_bit d.gate.c.outside tin level) n
    level_at n l true e = rw (with_bit_lem c.gate.c.outside tin n level l, with_bit_lem d.gate.c.outside tin n level l, e) refl
    level_at n l false e =
        rw (with_bit_lem c.gate.c.outside tin n level l, with_bit_lem d.gate.c.outside tin n level l, e)
        (same.gate.levels n l (λ f. false≢true (sym (rw f at e))))

    outside : with_bit c.gate.c.outside tin level ≡ with_bit d.gate.c.outside tin level
    outside =
        same_bits _ _ (with_byte c.gate.c.outside tin level same.gate.bytes.1) (with_byte d.gate.c.outside tin level same.gate.bytes.0)
        (λ n l. level_at n l (eqb tin n) refl)

joined_alike : (x y f g : Made) → x.answers ≡ y.answers → x.openings ≡ y.openings → f ≡ g → joined x f ≡ joined y g
joined_alike x y f g answers openings rest = rw (answers, openings, rest)

-- So a list that states PC2's level before TIN carries its function and before data C is read opens, answers and leaves what it did.
pub stated : (xs : List Event) (level : Bool) (ys : List Event) (k : ℕ) → Every OnClk xs → Every NoDataC xs
    → made fresh_device k (xs ++ Pin tin_pin level ∷ ys) ≡ made all_high k (xs ++ Pin tin_pin level ∷ ys)
unfolding made
stated xs level ys k clk unread =
    let zs = Pin tin_pin level ∷ ys in
    let x = made fresh_device k xs in
    let y = made all_high k xs in
    let same = leaves_unseen xs fresh_device all_high k fresh_unseen clk in
    let clocks : x.clocks ≡ y.clocks = clocks_passed fresh_device k xs ∙ sym (clocks_passed all_high k xs) in
    let rest : made x.device x.clocks zs ≡ made y.device y.clocks zs =
    rw (clocks, stated_makes x.device y.device y.clocks level same) refl in
    prefix xs zs fresh_device k
    ∙ joined_alike x y _ _ (answers_unseen xs fresh_device all_high k fresh_unseen clk unread) (opens_unseen xs fresh_device all_high k fresh_unseen clk) rest
    ∙ sym (prefix xs zs all_high k)

-- x and y are accepted or refused alike, with the same totals and the same in all that was lent; accepted, R tells of their devices
pub record Alike (R : Device → Device → Type 0) (x y : Result) : Type 0 where
  pub refusal : x.outcome.refusal ≡ y.outcome.refusal
  pub place : x.outcome.place ≡ y.outcome.place
  pub answered : x.outcome.answers ≡ y.outcome.answers
  pub opened : x.outcome.openings ≡ y.outcome.openings
  pub clocks : x.outcome.clocks ≡ y.outcome.clocks
  pub bytes : x.answers ≡ y.answers
  pub row : x.openings ≡ y.openings
  pub device : x.outcome.refusal ≡ 0 → R x.outcome.device y.outcome.device

module _ (R : Device → Device → Type 0) (c d : Device) (answers openings : List ℕ) where
  refused_alike : (r : ℕ) → (r ≡ 0 → ⊥) → Alike R (refusal c answers openings r 0) (refusal d answers openings r 0)
  refused_alike r some =
      record { refusal = refl; place = refl; answered = refl; opened = refl; clocks = refl; bytes = refl; row = refl; device = λ e. absurd (some e) }

  settled_alike : (m n : Made) → m.answers ≡ n.answers → m.openings ≡ n.openings → m.clocks ≡ n.clocks → R m.device n.device
      → Alike R (settled c answers openings m) (settled d answers openings n)
  settled_alike m n a o k devices =
      rw (a, o)
      (both_arms (Alike R) (ltb (length answers) (length n.answers)) _ _ _ _ (refused_alike 6 (λ e. omega (arith, e)))
      (both_arms (Alike R) (ltb (length openings) (length n.openings)) _ _ _ _ (refused_alike 7 (λ e. omega (arith, e)))
      (record { refusal = refl; place = refl; answered = refl; opened = refl; clocks = k; bytes = refl; row = refl; device = λ _. devices })))

  -- two lists on two valid devices, whose events make the same
  plays_alike : (s t : List ℕ) (es fs : List Event) → valid_of c ≡ true → valid_of d ≡ true → parsed s ≡ events es → parsed t ≡ events fs
      → (made c 0 es).answers ≡ (made d 0 fs).answers → (made c 0 es).openings ≡ (made d 0 fs).openings → (made c 0 es).clocks ≡ (made d 0 fs).clocks
      → R (made c 0 es).device (made d 0 fs).device → Alike R (play_of s c answers openings) (play_of t d answers openings)
  unfolding play_of
  plays_alike s t es fs v w read read' a o k devices = rw (v, w, read, read') (settled_alike (made c 0 es) (made d 0 fs) a o k devices)

high_valid : valid_of all_high ≡ true
unfolding made
high_valid = ap (λ (m : Made). valid_of m.device) (sym (behind_high [] 0)) ∙ list_stays (Pin tin_pin true ∷ []) fresh_device 0 (tt, tt) fresh_valid

module _ (answers openings : List ℕ) where
  -- A call on a fresh device with a list that is put behind PC2 high answers in everything as the call with the list itself did on the
  -- fresh device that 01 has.
  pub behind_high_plays : (s t : List ℕ) (es : List Event) → parsed t ≡ events (Pin tin_pin true ∷ es) → parsed s ≡ events es
      → Alike ◌≡◌ (play_of t fresh_device answers openings) (play_of s all_high answers openings)
  behind_high_plays s t es behind read =
      let same = behind_high es 0 in
      plays_alike ◌≡◌ fresh_device all_high answers openings t s (Pin tin_pin true ∷ es) es fresh_valid high_valid behind read
      (ap (λ (m : Made). m.answers) same) (ap (λ (m : Made). m.openings) same) (ap (λ (m : Made). m.clocks) same) (ap (λ (m : Made). m.device) same)

  -- So does one with a list that states PC2's level, either, before TIN carries its function and before data C is read.
  pub stated_plays : (s : List ℕ) (xs : List Event) (level : Bool) (ys : List Event) → parsed s ≡ events (xs ++ Pin tin_pin level ∷ ys)
      → Every OnClk xs → Every NoDataC xs → Alike ◌≡◌ (play_of s fresh_device answers openings) (play_of s all_high answers openings)
  stated_plays s xs level ys read clk unread =
      let es = xs ++ Pin tin_pin level ∷ ys in
      let same = stated xs level ys 0 clk unread in
      plays_alike ◌≡◌ fresh_device all_high answers openings s s es es fresh_valid high_valid read read
      (ap (λ (m : Made). m.answers) same) (ap (λ (m : Made). m.openings) same) (ap (λ (m : Made). m.clocks) same) (ap (λ (m : Made). m.device) same)

  -- And one with a list that never looks at PC2, source 00 throughout and no read of data C: it needs no level, and but for PC2's outside
  -- level its device is the same too.
  pub unseen_plays : (s : List ℕ) (es : List Event) → parsed s ≡ events es → Every OnClk es → Every NoDataC es
      → Alike Unseen (play_of s fresh_device answers openings) (play_of s all_high answers openings)
  unseen_plays s es read clk unread =
      plays_alike Unseen fresh_device all_high answers openings s s es es fresh_valid high_valid read read
      (answers_unseen es fresh_device all_high 0 fresh_unseen clk unread)
      (opens_unseen es fresh_device all_high 0 fresh_unseen clk)
      (clocks_passed fresh_device 0 es ∙ sym (clocks_passed all_high 0 es))
      (leaves_unseen es fresh_device all_high 0 fresh_unseen clk)
