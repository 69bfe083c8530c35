-- A rise of TIN is held to the next clock (02, R-2): what it does until then, what takes it, and what drops it.
use Rattle.std.specs.Prelude.{ℕ, suc, ◌+◌, ◌<◌, ◌≤◌, Bool, ◌&&◌, ◌||◌, ◌⊎◌, List, [], ◌∷◌, ◌++◌, map, ◌≡◌, eqb}
use Rattle.std.proofs.Math.Bool.{true, false, not}
use Rattle.std.proofs.Common.{true≢false, inl, inr, ◌∙◌, arith}
use Rattle.std.proofs.lemmas.Bool.{false≢true}
use Rattle.std.proofs.Math.Path.{refl, sym, ap}
use borrow.Author.Tests.{eqb-true, eq-eqb, ne_eqb, ltb-true, not-true}
use Rattle.std.specs.Int.Bits.{bit_and}
use Rattle.bits.specs.Choice.{branch, both_arms, and_right, either}
use Rattle.bits.specs.Field.{bit_of, with_bit}
use Rattle.bits.specs.Trying.{any_below}
use Rattle.event.specs.Map.{TCR, TIVR, CPRH, CNTRH, TSR, number_bytes}
use Rattle.event.specs.declared.Event.{Event}
use Rattle.event.specs.declared.Event.TheVariants.{Write, Read, PortAcknowledge, TimerAcknowledge, Pin, Clocks, Reset}
use Rattle.port_c.specs.Pins.{tin, tin_level}
use Rattle.timer.specs.Control.{tcr_bits, source_of, runs_of, by_rises}
use Rattle.timer.specs.Parts.{with_tcr, with_rise}
use Rattle.timer.specs.Counting.{full}
use Rattle.timer.specs.Registers.{switched_of, controlled_of, cleared_of, preloaded_of, acknowledge_of, reset_of as reset_timer}
use Rattle.timer.specs.Running.{risen_of, mark}
use Rattle.timer.specs.Validity.{rests_of}
use Rattle.timer.specs.declared.Timer.{Timer}
use Rattle.clocks.specs.Kept.{risen_keeps}
use Rattle.gate.specs.Fresh.{reset_gate}
use Rattle.gate.specs.Parts.{with_timer}
use Rattle.gate.specs.Pins.{with_line, tin_event, line_event, gate_pinned}
use Rattle.gate.specs.Registers.{write_tcr, write_preload, write_tsr, gate_written}
use Rattle.gate.specs.declared.Gate.{Gate}
use Rattle.parallel.specs.Pins.{parallel_pinned}
use Rattle.device.specs.Events.{Made, silently, joined, effect, made}
use Rattle.device.specs.Fresh.{reset_of}
use Rattle.device.specs.Interrupts.{timer_acknowledge}
use Rattle.device.specs.Parts.{with_gate}
use Rattle.device.specs.Pins.{pin_of}
use Rattle.device.specs.Registers.{read_of, write_of}
use Rattle.device.specs.Validity.{valid_of}
use Rattle.device.specs.Following.{followed, gate_follows, gate_opens}
use Rattle.device.specs.declared.Device.{Device}
use Rattle.laws.specs.Rises.{RunsByRises, any_level, level_comes, clocks_take, source_drops}
use Rattle.laws.specs.Stays.{Bytes, valid_in, list_stays}
use Rattle.laws.specs.Touching.{Agree, tin_pin, any_write, any_gate_pin, tcr_holds, tin_level_lem}
use Rattle.wire.specs.List.{events, parsed}
use Rattle.play.specs.Play.{acceptance, play_of}
use Rattle.promises.specs.Effects.{accepted_is_the_fold}
use Rattle.promises.specs.Formula.{Halted}
use Rattle.promises.specs.Prefixes.{prefix}
use Rattle.promises.specs.Refusals.{Gives, refusal_8}
use Rattle.promises.specs.Unseen.{Every, source_holds}

-- the timer runs, and it is rises of TIN that step it: source 10 or 11
abbrev pub ByRises : Device → Type 0
ByRises d = RunsByRises (tin_level d.gate.c) d.gate.timer

-- a rise is held
abbrev pub Holds : Device → Type 0
Holds d = d.gate.timer.phase.rise ≡ true

-- the device with none held
abbrev pub unheld : Device → Device
unheld d = with_gate d (with_timer d.gate (with_rise d.gate.timer false))

-- the device with a level remembered at PC2, and nothing else
abbrev pub remembered : Device → Bool → Device
remembered d level = with_gate d (with_line d.gate tin level)

still : (t : Timer) (rises : Bool) → t.phase.rise ≡ true → with_rise t (t.phase.rise || rises) ≡ t
still t rises held = (λ i. with_rise t (held i || rises)) ∙ (λ i. with_rise t (sym held i))

module _ (d : Device) (k : ℕ) (by : ByRises d) where
  -- 'a rise with source 10 or 11 is held': at a rise of PC2 one is held, at any other level what was. The level is remembered, nothing
  -- opens, and nothing else of the part moves.
  pub level_at_tin : (level : Bool)
      → (let t = d.gate.timer in
      effect d k (Pin tin_pin level)
      ≡ silently (with_gate d (with_line (with_timer d.gate (with_rise t (t.phase.rise || (not (tin_level d.gate.c) && level)))) tin level)) k)
  unfolding effect pin_of parallel_pinned gate_pinned line_event tin_event
  level_at_tin level = rw (level_comes d.gate.timer (tin_level d.gate.c) by level)

  -- 'further rises before it add nothing', and a fall takes none back: while one is held a level at PC2 is remembered, and that is all.
  pub adds_nothing : Holds d → (level : Bool) → effect d k (Pin tin_pin level) ≡ silently (remembered d level) k
  adds_nothing held level =
      level_at_tin level
      ∙ ap (λ (t : Timer). silently (with_gate d (with_line (with_timer d.gate t) tin level)) k) (still d.gate.timer (not (tin_level d.gate.c) && level) held)

-- with source 10 or 11 it runs at the other level too
at_level : (d : Device) (level : Bool) → ByRises d → ByRises (remembered d level)
unfolding tin_level
at_level d level by =
    let new = tin_level (remembered d level).gate.c in
    record { runs = any_level d.gate.timer.tcr new (tin_level d.gate.c) by.rises ∙ by.runs; rises = by.rises }

-- a level there and back
there_and_back : (x : ℕ) → x < 256 → with_bit (with_bit x tin (not (bit_of x tin))) tin (bit_of x tin) ≡ x
unfolding with_bit bit_of
there_and_back x l = eqb-true _ _ (any_below 256 (λ x. eqb (with_bit (with_bit x tin (not (bit_of x tin))) tin (bit_of x tin)) x) refl x l)

-- port C's outside levels are a byte, as every device's are
abbrev pub ByteC : Device → Type 0
ByteC d = d.gate.c.outside < 256

-- two events: PC2 goes to its other level, and back
abbrev pub pulse : Device → List Event → List Event
pulse d es = Pin tin_pin (not (tin_level d.gate.c)) ∷ Pin tin_pin (tin_level d.gate.c) ∷ es

-- 'two rises inside one CLK period count once': from where a rise is held, PC2 may go to its other level and back, which is a further
-- rise, and all is as if it had not.
pub counts_once : (d : Device) (k : ℕ) (es : List Event) → ByteC d → ByRises d → Holds d → made d k (pulse d es) ≡ made d k es
unfolding made tin_level
counts_once d k es byte by held =
    let level = tin_level d.gate.c in
    let e = remembered d (not level) in
    rw (adds_nothing d k by held (not level), adds_nothing e k (at_level d (not level) by) held level, there_and_back d.gate.c.outside byte) refl

-- Of the call: a list with such a further rise answers in everything as the list without it.
pub further_rise_plays : (s s' : List ℕ) (d : Device) (answers openings : List ℕ) (xs ys : List Event)
    → (let held = (made d 0 xs).device in
    parsed s ≡ events (xs ++ pulse held ys) → parsed s' ≡ events (xs ++ ys) → ByteC held → ByRises held → Holds held
    → play_of s d answers openings ≡ play_of s' d answers openings)
unfolding play_of
further_rise_plays s s' d answers openings xs ys read read' byte by held =
    let m = made d 0 xs in
    rw (read, read', prefix xs (pulse m.device ys) d 0, prefix xs ys d 0, counts_once m.device m.clocks ys byte by held) refl

-- no clock passes, nothing is reset, and what is written to TCR is a byte with bit 0 set and the same source
abbrev pub Keeping : ℕ → Event → Type 0
Keeping source (Write r v) = r ≡ TCR → (v < 256) × (bit_of v 0 ≡ true) × (source_of v ≡ source)
Keeping source (Read r) = Unit {0}
Keeping source PortAcknowledge = Unit {0}
Keeping source TimerAcknowledge = Unit {0}
Keeping source (Pin n level) = Unit {0}
Keeping source (Clocks n) = ⊥
Keeping source Reset = ⊥

-- a gate that runs by rises with a source, and holds one
pub record Waits (source : ℕ) (g : Gate) : Type 0 where
  pub by : RunsByRises (tin_level g.c) g.timer
  pub held : g.timer.phase.rise ≡ true
  pub from : source_of g.timer.tcr ≡ source

module _ (source : ℕ) (g : Gate) (w : Waits source g) where
  same_waits : (x : Gate) → Agree g x → Waits source x
  same_waits x a = record { by = rw (a.timer, a.tin) w.by; held = rw a.timer w.held; from = rw a.timer w.from }

  -- another timer with this TCR, and a rise held
  timer_waits : (t : Timer) → t.tcr ≡ g.timer.tcr → t.phase.rise ≡ g.timer.phase.rise → Waits source (with_timer g t)
  timer_waits t e r = record {
    by = record { runs = rw e w.by.runs; rises = rw e w.by.rises };
    held = r ∙ w.held;
    from = ap source_of e ∙ w.from;
  }

  -- a TCR with bit 0 set and the same source
  tcr_waits : (v : ℕ) → (v < 256) × (bit_of v 0 ≡ true) × (source_of v ≡ source) → Waits source (write_tcr g v)
  unfolding write_tcr controlled_of switched_of runs_of by_rises
  tcr_waits v k =
      let t = g.timer in
      let h = tcr_holds v k.0 in
      let on : bit_of (bit_and v tcr_bits) 0 ≡ true = h.0 ∙ k.1 in
      let same : source_of (bit_and v tcr_bits) ≡ source_of t.tcr = h.2 ∙ k.2 ∙ sym w.from in
      let rises = w.by.rises in
      let other = ne_eqb (source_of t.tcr) 1 (λ e. omega (arith, ltb-true 1 (source_of t.tcr) rises)) in
      simp (on, same, other, w.held, eq-eqb (source_of t.tcr) (source_of t.tcr) refl)
      (record { by = record { runs = simp (on, same, other); rises = rw same rises }; held = refl; from = same ∙ w.from })

  write_waits : (r v : ℕ) → Keeping source (Write r v) → Waits source (gate_written g r v)
  unfolding write_preload write_tsr preloaded_of cleared_of
  write_waits r v k =
      any_write (Waits source) g r v same_waits
      (λ e. tcr_waits v (k e))
      (λ _. timer_waits _ refl refl)
      (λ _ _. timer_waits _ refl refl)
      (λ _. branch (λ (t : Timer). Waits source (with_timer g t)) (bit_of v 0) _ _ (λ _. timer_waits _ refl refl) (λ _. w))

  tin_waits : (level : Bool) → Waits source (tin_event g level)
  unfolding tin_event
  tin_waits level =
      let t = g.timer in
      let timer : (tin_event g level).timer ≡ t = level_comes t (tin_level g.c) w.by level ∙ still t (not (tin_level g.c) && level) w.held in
      record {
        by = rw (timer, tin_level_lem g level) (record { runs = any_level t.tcr level (tin_level g.c) w.by.rises ∙ w.by.runs; rises = w.by.rises });
        held = rw timer w.held;
        from = rw timer w.from;
      }

  event_waits : (e : Event) → Keeping source e → Waits source (followed g e)
  event_waits (Write r v) k = write_waits r v k
  event_waits (Read r) k = w
  event_waits PortAcknowledge k = w
  event_waits TimerAcknowledge k = w
  event_waits (Pin n level) k = any_gate_pin (Waits source) g n level same_waits (λ _. tin_waits level)
  event_waits (Clocks n) k = absurd k
  event_waits Reset k = absurd k

-- A rise is held through everything else, falls of TIN and a write of TCR that leaves source and bit 0 among it, up to its clock.
pub held_until : (es : List Event) (d : Device) (k : ℕ) (source : ℕ) → Every (Keeping source) es → Waits source d.gate → Waits source (made d k es).device.gate
unfolding made
held_until [] d k source keeping w = w
held_until (e ∷ es) d k source keeping w =
    held_until es (effect d k e).device (effect d k e).clocks source keeping.1 (rw (gate_follows d k e) (event_waits source d.gate w e keeping.0))

-- no clock passes, nothing is reset, and no register of the timer is written
abbrev pub Waiting : Event → Type 0
Waiting (Write r v) = (r ≡ TCR → ⊥) × (r ≡ TIVR → ⊥) × (CPRH ≤ r → r < CPRH + number_bytes → ⊥) × (r ≡ TSR → ⊥)
Waiting (Read r) = Unit {0}
Waiting PortAcknowledge = Unit {0}
Waiting TimerAcknowledge = Unit {0}
Waiting (Pin n level) = Unit {0}
Waiting (Clocks n) = ⊥
Waiting Reset = ⊥

-- x runs by rises, and its timer is t but for a held rise
record Stands (t : Timer) (x : Gate) : Type 0 where
  by : RunsByRises (tin_level x.c) x.timer
  timer : x.timer ≡ with_rise t x.timer.phase.rise

module _ (t : Timer) (g : Gate) (s : Stands t g) where
  same_stands : (x : Gate) → Agree g x → Stands t x
  same_stands x a = record { by = rw (a.timer, a.tin) s.by; timer = rw a.timer s.timer }

  tin_stands : (level : Bool) → Stands t (tin_event g level)
  unfolding tin_event
  tin_stands level =
      let u = g.timer in
      let rise = u.phase.rise || (not (tin_level g.c) && level) in
      let moved : (tin_event g level).timer ≡ with_rise u rise = level_comes u (tin_level g.c) s.by level in
      record {
        by = rw (tin_level_lem g level, moved) (record { runs = any_level u.tcr level (tin_level g.c) s.by.rises ∙ s.by.runs; rises = s.by.rises });
        timer = rw moved (ap (λ (x : Timer). with_rise x rise) s.timer);
      }

  event_stands : (e : Event) → Waiting e → Stands t (followed g e)
  event_stands (Write r v) wait =
      any_write (Stands t) g r v same_stands
      (λ e. absurd (wait.0 e)) (λ e. absurd (wait.1 e)) (λ low high. absurd (wait.2 low high)) (λ e. absurd (wait.3 e))
  event_stands (Read r) wait = s
  event_stands PortAcknowledge wait = s
  event_stands TimerAcknowledge wait = s
  event_stands (Pin n level) wait = any_gate_pin (Stands t) g n level same_stands (λ _. tin_stands level)
  event_stands (Clocks n) wait = absurd wait
  event_stands Reset wait = absurd wait

events_stand : (es : List Event) (d : Device) (k : ℕ) (t : Timer) → Every Waiting es → Stands t d.gate → Stands t (made d k es).device.gate
unfolding made
events_stand [] d k t waiting s = s
events_stand (e ∷ es) d k t waiting s =
    events_stand es (effect d k e).device (effect d k e).clocks t waiting.1 (rw (gate_follows d k e) (event_stands t d.gate s e waiting.0))

-- what every register of the timer reads: TCR, TIVR, preload, count and TSR
abbrev pub timer_reads : Device → List ℕ
timer_reads d = map (λ (r : ℕ). (read_of d r).byte) (TCR ∷ TIVR ∷ CPRH ∷ (CPRH + 1) ∷ (CPRH + 2) ∷ CNTRH ∷ (CNTRH + 1) ∷ (CNTRH + 2) ∷ TSR ∷ [])

-- The registers do not move between a rise and its clock: with source 10 or 11, whatever levels come to TIN and whatever else happens that
-- is no clock, no reset and no write of these registers, each reads what it did, and the timer acknowledge answers what it did.
pub registers_stand : (es : List Event) (d : Device) (k : ℕ) → Every Waiting es → ByRises d
    → (timer_reads (made d k es).device ≡ timer_reads d) × (timer_acknowledge (made d k es).device ≡ timer_acknowledge d)
unfolding read_of acknowledge_of
registers_stand es d k waiting by =
    let s = events_stand es d k d.gate.timer waiting (record { by = by; timer = refl }) in
    rw s.timer (refl, refl)

-- m is what clocks make of a held rise: its step, with preload and TCR bit 4 as they then stand; an opening carries the first clock's
-- number; and none is held any more
pub record Takes (d : Device) (k : ℕ) (m : Made) : Type 0 where
  pub timer : m.device.gate.timer ≡ (risen_of d.gate.timer).part
  pub openings : m.openings ≡ mark (risen_of d.gate.timer).opened (suc k) []
  pub none : m.device.gate.timer.phase.rise ≡ false

-- '.. and takes effect at the next clock': of so many clocks the first takes it, and the others do nothing to the timer.
pub next_clock_takes : (d : Device) (k n : ℕ) → ByRises d → Holds d → Takes d k (effect d k (Clocks (suc n)))
next_clock_takes d k n by held =
    let s = clocks_take d.gate.timer (tin_level d.gate.c) by held n in
    let timer = ap (λ (g : Gate). g.timer) (gate_follows d k (Clocks (suc n))) ∙ s.ends in
    record { timer = timer; openings = gate_opens d k (Clocks (suc n)) ∙ s.opens k; none = rw timer (risen_keeps d.gate.timer).1 }

-- the events that drop a held rise
pub data Drops (d : Device) : Event → Type 0 where
  -- a halt: TCR is written with bit 0 clear
  halt : (v : ℕ) → v < 256 → bit_of v 0 ≡ false → Drops d (Write TCR v)
  -- a change of source
  source : (v : ℕ) → (source_of d.gate.timer.tcr ≡ source_of v → ⊥) → Drops d (Write TCR v)
  reset : Drops d Reset

off_halts : (tcr : ℕ) (tin : Bool) → bit_of tcr 0 ≡ false → runs_of tcr tin ≡ false
unfolding runs_of
off_halts tcr tin off = rw off

-- a timer that a write of TCR halts, or whose source it changes, is left as if no rise had been held
halt_drops : (t : Timer) (v : ℕ) (tin : Bool) → runs_of (bit_and v tcr_bits) tin ≡ false → controlled_of t v tin ≡ controlled_of (with_rise t false) v tin
unfolding controlled_of
halt_drops t v tin halts = rw halts

switch_drops : (t : Timer) (v : ℕ) (tin : Bool) → (source_of t.tcr ≡ source_of v → ⊥) → controlled_of t v tin ≡ controlled_of (with_rise t false) v tin
unfolding controlled_of switched_of
switch_drops t v tin other =
    let dropped = source_drops t (bit_and v tcr_bits) (λ e. other (e ∙ source_holds v)) in
    both_arms ◌≡◌ (runs_of (bit_and v tcr_bits) tin) _ _ _ _ (λ i. with_rise (with_tcr t (bit_and v tcr_bits)) (dropped i)) refl

module _ (d : Device) (k : ℕ) where
  event_drops : {e : Event} → Drops d e → effect d k e ≡ effect (unheld d) k e
  unfolding effect write_of write_tcr reset_of reset_gate reset_timer tin_level
  event_drops (halt v byte off) =
      let tin = tin_level d.gate.c in
      let halts : runs_of (bit_and v tcr_bits) tin ≡ false = off_halts (bit_and v tcr_bits) tin ((tcr_holds v byte).0 ∙ off) in
      ap (λ (t : Timer). silently (with_gate d (with_timer d.gate t)) k) (halt_drops d.gate.timer v tin halts)
  event_drops (source v other) =
      ap (λ (t : Timer). silently (with_gate d (with_timer d.gate t)) k) (switch_drops d.gate.timer v (tin_level d.gate.c) other)
  event_drops reset = refl

  -- 'a halt, a reset or a change of source drops it': from there on the part answers, opens and is in everything as if no rise had been
  -- held. So a rise that is dropped never counts.
  pub never_counts : {e : Event} (es : List Event) → Drops d e → made d k (e ∷ es) ≡ made (unheld d) k (e ∷ es)
  unfolding made
  never_counts es drops = rw (event_drops drops) refl

-- Of the call: where an event of an accepted list drops a rise, the call is what it would be had none been held there.
pub dropped_plays : (s : List ℕ) (d : Device) (answers openings : List ℕ) (xs : List Event) (e : Event) (ys : List Event)
    → (play_of s d answers openings).outcome.refusal ≡ 0 → parsed s ≡ events (xs ++ e ∷ ys)
    → (let m = made d 0 xs in
    Drops m.device e → play_of s d answers openings ≡ acceptance d answers openings (joined m (made (unheld m.device) m.clocks (e ∷ ys))))
dropped_plays s d answers openings xs e ys accepted read drops =
    let m = made d 0 xs in
    let f = accepted_is_the_fold s d answers openings accepted in
    let same : f.es ≡ xs ++ e ∷ ys = cc in
    (rw same at f.result)
    ∙ ap (acceptance d answers openings) (prefix xs (e ∷ ys) d 0 ∙ ap (joined m) (never_counts m.device m.clocks ys drops))

-- With sources 00 and 01 no rise is ever held, and none while the timer is halted.
module _ (d : Device) (valid : valid_of d ≡ true) where
  pub none_on_clk : by_rises d.gate.timer.tcr ≡ false → d.gate.timer.phase.rise ≡ false
  none_on_clk clk = no_rise d.gate.timer.phase.rise (by_rises d.gate.timer.tcr) (valid_in d valid).gate.rise clk
    where
      no_rise : (rise rises : Bool) → (not rise || rises) ≡ true → rises ≡ false → rise ≡ false
      no_rise true rises h clk = absurd (false≢true (sym clk ∙ h))
      no_rise false rises h clk = refl

  pub none_halted : Halted d → d.gate.timer.phase.rise ≡ false
  unfolding rests_of
  none_halted halted =
      let p = d.gate.timer.phase in
      let rests = either (runs_of d.gate.timer.tcr (tin_level d.gate.c)) (rests_of p) (valid_in d valid).gate.halts halted in
      not-true p.rise (and_right (eqb p.prescaler.0 full && not p.zds && p.square && p.due) (not p.rise) rests)

-- so it is after any events
pub never_on_clk : (d : Device) → valid_of d ≡ true → (es : List Event) (k : ℕ) → Bytes es
    → (let e = (made d k es).device in by_rises e.gate.timer.tcr ≡ false → e.gate.timer.phase.rise ≡ false)
never_on_clk d valid es k bytes = none_on_clk (made d k es).device (list_stays es d k bytes valid)

-- 8 also where a rise is held in a timer that is halted or has source 00 or 01: place 0, whatever the list is and whatever is lent.
pub held_refused : (s : List ℕ) (d : Device) (answers openings : List ℕ) → Holds d → Halted d ⊎ (by_rises d.gate.timer.tcr ≡ false) → Gives s d answers openings 8 0
held_refused s d answers openings held where-none = (refusal_8 s d answers openings 0).1 (not_valid (valid_of d) refl, refl)
  where
    none : Halted d ⊎ (by_rises d.gate.timer.tcr ≡ false) → valid_of d ≡ true → d.gate.timer.phase.rise ≡ false
    none (inl halted) valid = none_halted d valid halted
    none (inr clk) valid = none_on_clk d valid clk

    not_valid : (v : Bool) → valid_of d ≡ v → valid_of d ≡ false
    not_valid true valid = absurd (true≢false (sym held ∙ none where-none valid))
    not_valid false invalid = invalid
