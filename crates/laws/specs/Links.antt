-- What refusal 8 asks of a pair, and that a sound pair stays sound through everything that happens to it (01, refusal 8 and
-- 'Mode 0'), by trying every pair there can be.
use Rattle.std.specs.Prelude.{◌≡◌, refl, Bool, true, false, not, ◌&&◌, ◌||◌, List, [], ◌∷◌, ◌↔◌, ℕ, zero, suc, ◌<◌, ◌≤◌, leb, ltb, eqb}
use Rattle.std.proofs.Common.{sym, ap, subst, ◌∙◌, true≢false, arith, leb-true, le-leb, eqb-true, eq-eqb, ne_eqb}
use Rattle.std.specs.Bool.{beq}
use Rattle.std.proofs.lemmas.Bool.{false≢true, not-true, not-false}
use Rattle.bits.specs.Choice.{branch, and_left, and_right, both, either, beq_true}
use Rattle.bits.specs.Field.{bit_of, field_of}
use Rattle.bits.specs.Trying.{given, give, Trial, any_bool, any_below_of, ◌and◌}
use Rattle.port.specs.Buffering.{places, stored_count, removed_count, filled_count}
use Rattle.port.specs.Moving.{moved_count}
use Rattle.port.specs.Control.{mode_of, submode_field, handshake_field, way_of, handshake_of, enabled_of, rules_of, direct_of, senses_of, locks_of, drives_of}
use Rattle.port.specs.Handshaking.{wait_of, longest, movable_of, ready_of, accepts_of, readied_of, clocked_strobe, strobe_after}
use Rattle.port.specs.Parts.{strobe_with, link_with, with_control, with_flags, with_levels}
use Rattle.port.specs.Edges.{restarted_of, flushed_of, first_edge, second_edge}
use Rattle.port.specs.Data.{counted_of, read_count, written_count, read_of, written_of}
use Rattle.port.specs.Switching.{begins_of, pgcr_written, control_written, flags_cleared_of}
use Rattle.port.specs.Clocking.{clocked_link, clocks_of}
use Rattle.port.specs.Fresh.{fresh_link, reset_link}
use Rattle.port.specs.Validity.{ranges_of, allowed_of, idle_of, locked_of, strobed_of, sound_of}
use Rattle.port.specs.declared.Way.{Way}
use Rattle.port.specs.declared.Way.TheVariants.{Input, Output, Direct}
use Rattle.port.specs.declared.Handshake.{Handshake}
use Rattle.port.specs.declared.Handshake.TheVariants.{Sense, Negated, Asserted, Interlocked, Pulsed}
use Rattle.port.specs.declared.Rules.{Rules}
use Rattle.port.specs.declared.Pair.{Pair}
use Rattle.port.specs.declared.Pair.TheVariants.{H12, H34}
use Rattle.port.specs.declared.Strobe.{Strobe}
use Rattle.port.specs.declared.Link.{Link}

-- at most two bytes held; a wait of at most its rule's length; a pulse of at most four clocks; not both at once
pub record Ranges (rules : Rules) (p : Link) : Type 0 where
  pub held : p.held ≤ places
  pub wait : p.strobe.wait ≤ wait_of rules.way
  pub pulse : p.strobe.pulse ≤ longest
  pub apart : 0 < p.strobe.wait → p.strobe.pulse ≡ 0

-- bytes held only if enabled and not 1X; the H1 flag only if enabled and 1X; the H2 flag only if enabled and control 0XX
pub record Allowed (rules : Rules) (p : Link) : Type 0 where
  pub held : 0 < p.held → (rules.enabled ≡ true) × (direct_of rules.way ≡ false)
  pub first : p.flag1 ≡ true → (rules.enabled ≡ true) × (direct_of rules.way ≡ true)
  pub second : p.flag2 ≡ true → (rules.enabled ≡ true) × (senses_of rules.handshake ≡ true)

-- a wait, pulse or asserted handshake only where 110 or 111 applies and the pair is ready, the pulse under 111 alone and the
-- asserted handshake under 110 alone; under 110 a ready pair has exactly one of wait and asserted handshake
pub record Strobed (handshake : Handshake) (ready : Bool) (s : Strobe) : Type 0 where
  pub waits : 0 < s.wait → (drives_of handshake ≡ true) × (ready ≡ true)
  pub pulses : 0 < s.pulse → (handshake ≡ Pulsed) × (ready ≡ true)
  pub asserts : s.asserted ≡ true → (handshake ≡ Interlocked) × (ready ≡ true)
  pub one : handshake ≡ Interlocked → ready ≡ true → (s.asserted ≡ true) ↔ (s.wait ≡ 0)

-- what refusal 8 asks of a pair, as plain facts
pub record Sound (rules : Rules) (p : Link) : Type 0 where
  pub ranges : Ranges rules p
  pub allowed : Allowed rules p
  pub strobed : Strobed rules.handshake (ready_of rules p.held) p.strobe

-- conditions and numbers
unless : (a b : Bool) → (a ≡ false → b ≡ true) → (a || b) ≡ true
unless true b f = refl
unless false b f = f refl

pub unset : (b : Bool) → (b ≡ true → ⊥) → b ≡ false
unset true f = absurd (f refl)
unset false f = refl

none : (n : ℕ) → (0 < n → ⊥) → eqb n 0 ≡ true
none zero f = refl
none (suc n) f = absurd (f (omega arith))

some : (n : ℕ) → eqb n 0 ≡ false → 0 < n
some zero h = absurd (true≢false h)
some (suc n) h = omega arith

over_zero : (n : ℕ) → 0 < n → eqb n 0 ≡ false
over_zero n l = ne_eqb n 0 (λ e. omega (arith, e))

ranges_in : (p : Link) (rules : Rules) → ranges_of p rules ≡ true → Ranges rules p
unfolding ranges_of
ranges_in p rules h =
    let held = leb p.held places in
    let wait = leb p.strobe.wait (wait_of rules.way) in
    let pulse = leb p.strobe.pulse longest in
    let apart = eqb p.strobe.wait 0 || eqb p.strobe.pulse 0 in
    let three : (held && wait && pulse) ≡ true = and_left _ apart h in
    let two : (held && wait) ≡ true = and_left _ pulse three in
    record {
      held = leb-true _ _ (and_left held wait two);
      wait = leb-true _ _ (and_right held wait two);
      pulse = leb-true _ _ (and_right (held && wait) pulse three);
      apart = λ l. eqb-true _ _ (either _ _ (and_right (held && wait && pulse) apart h) (over_zero _ l));
    }

ranges_out : (p : Link) (rules : Rules) → Ranges rules p → ranges_of p rules ≡ true
unfolding ranges_of
ranges_out p rules r =
    both _ _ (both _ _ (both _ _ (le-leb _ _ r.held) (le-leb _ _ r.wait)) (le-leb _ _ r.pulse))
    (unless _ _ (λ e. eq-eqb _ _ (r.apart (some _ e))))

allowed_in : (p : Link) (rules : Rules) → allowed_of p rules ≡ true → Allowed rules p
unfolding allowed_of
allowed_in p rules h =
    let on = rules.enabled in
    let direct = direct_of rules.way in
    let senses = senses_of rules.handshake in
    let held = eqb p.held 0 || on && not direct in
    let first = not p.flag1 || on && direct in
    let second = not p.flag2 || on && senses in
    let two : (held && first) ≡ true = and_left _ second h in
    record {
      held = λ l. let x = either _ _ (and_left held first two) (over_zero _ l) in (and_left on (not direct) x, not-true direct (and_right on (not direct) x));
      first = λ e. let x = either _ _ (and_right held first two) (ap not e) in (and_left on direct x, and_right on direct x);
      second = λ e. let x = either _ _ (and_right (held && first) second h) (ap not e) in (and_left on senses x, and_right on senses x);
    }

allowed_out : (p : Link) (rules : Rules) → Allowed rules p → allowed_of p rules ≡ true
unfolding allowed_of
allowed_out p rules a =
    both _ _ (both _ _
    (unless _ _ (λ e. let x = a.held (some _ e) in both _ _ x.0 (ap not x.1)))
    (unless _ _ (λ e. let x = a.first (not-false _ e) in both _ _ x.0 x.1)))
    (unless _ _ (λ e. let x = a.second (not-false _ e) in both _ _ x.0 x.1))

-- H2 with neither wait, pulse nor asserted handshake
idle_in : (handshake : Handshake) (ready : Bool) (s : Strobe) → (handshake ≡ Interlocked → ready ≡ true → ⊥) → idle_of s ≡ true → Strobed handshake ready s
idle_in handshake ready s never h =
    let wait = eqb s.wait 0 in
    let pulse = eqb s.pulse 0 in
    let two : (wait && pulse) ≡ true = and_left _ (not s.asserted) h in
    let w : s.wait ≡ 0 = eqb-true _ _ (and_left wait pulse two) in
    let q : s.pulse ≡ 0 = eqb-true _ _ (and_right wait pulse two) in
    let a : s.asserted ≡ false = not-true _ (and_right (wait && pulse) _ h) in
    record {
      waits = λ l. absurd (omega arith);
      pulses = λ l. absurd (omega arith);
      asserts = λ e. absurd (false≢true (sym a ∙ e));
      one = λ e r. absurd (never e r);
    }

idle_out : (handshake : Handshake) (ready : Bool) (s : Strobe) → (drives_of handshake ≡ true → ready ≡ true → ⊥) → Strobed handshake ready s → idle_of s ≡ true
idle_out handshake ready s never x =
    both _ _ (both _ _
    (none _ (λ l. never (x.waits l).0 (x.waits l).1))
    (none _ (λ l. never (ap drives_of (x.pulses l).0) (x.pulses l).1)))
    (ap not (unset _ (λ a. never (ap drives_of (x.asserts a).0) (x.asserts a).1)))

exactly_one : (a : Bool) (n : ℕ) → (a ≡ true) ↔ (n ≡ 0) → beq a (eqb n 0) ≡ true
exactly_one true n e = ap (λ (b : Bool). beq true b) (eq-eqb n 0 (e.0 refl))
exactly_one false n e = ap (λ (b : Bool). beq false b) (ne_eqb n 0 (λ z. false≢true (e.1 z)))

strobed_in : (handshake : Handshake) (ready : Bool) (s : Strobe) → strobed_of s handshake ready ≡ true → Strobed handshake ready s
unfolding strobed_of locked_of
strobed_in Sense ready s h = idle_in Sense ready s (λ e _. false≢true (ap locks_of e)) h
strobed_in Negated ready s h = idle_in Negated ready s (λ e _. false≢true (ap locks_of e)) h
strobed_in Asserted ready s h = idle_in Asserted ready s (λ e _. false≢true (ap locks_of e)) h
strobed_in Interlocked true s h =
    let q : s.pulse ≡ 0 = eqb-true _ _ (and_left _ (beq s.asserted (eqb s.wait 0)) h) in
    let m : s.asserted ≡ eqb s.wait 0 = beq_true _ _ (and_right (eqb s.pulse 0) _ h) in
    record {
      waits = λ _. (refl, refl);
      pulses = λ l. absurd (omega arith);
      asserts = λ _. (refl, refl);
      one = λ _ _. (λ a. eqb-true _ _ (sym m ∙ a), λ w. m ∙ eq-eqb _ _ w);
    }
strobed_in Interlocked false s h = idle_in Interlocked false s (λ _ r. false≢true r) (and_right (eqb s.pulse 0) _ h)
strobed_in Pulsed true s h =
    let a : s.asserted ≡ false = not-true _ (and_left _ true h) in
    record {
      waits = λ _. (refl, refl);
      pulses = λ _. (refl, refl);
      asserts = λ e. absurd (false≢true (sym a ∙ e));
      one = λ e _. absurd (false≢true (ap locks_of e));
    }
strobed_in Pulsed false s h = idle_in Pulsed false s (λ _ r. false≢true r) (and_right (not s.asserted) _ h)

strobed_out : (handshake : Handshake) (ready : Bool) (s : Strobe) → Strobed handshake ready s → strobed_of s handshake ready ≡ true
unfolding strobed_of locked_of
strobed_out Sense ready s x = idle_out Sense ready s (λ e _. false≢true e) x
strobed_out Negated ready s x = idle_out Negated ready s (λ e _. false≢true e) x
strobed_out Asserted ready s x = idle_out Asserted ready s (λ e _. false≢true e) x
strobed_out Interlocked true s x =
    both _ _ (none _ (λ l. true≢false (ap locks_of (x.pulses l).0))) (exactly_one s.asserted s.wait (x.one refl refl))
strobed_out Interlocked false s x =
    both _ _ (none _ (λ l. false≢true (x.pulses l).1)) (idle_out Interlocked false s (λ _ r. false≢true r) x)
strobed_out Pulsed true s x = both _ _ (ap not (unset _ (λ a. false≢true (ap locks_of (x.asserts a).0)))) refl
strobed_out Pulsed false s x =
    both _ _ (ap not (unset _ (λ a. false≢true (x.asserts a).1))) (idle_out Pulsed false s (λ _ r. false≢true r) x)

-- A pair is sound by its definition where it is so as plain facts, and the other way round.
pub sound_in : (p : Link) (rules : Rules) → sound_of p rules ≡ true → Sound rules p
unfolding sound_of
sound_in p rules h =
    let ranges = ranges_of p rules in
    let allowed = allowed_of p rules in
    let ready = ready_of rules p.held in
    let strobed = strobed_of p.strobe rules.handshake ready in
    let two : (ranges && allowed) ≡ true = and_left _ strobed h in
    record {
      ranges = ranges_in p rules (and_left ranges allowed two);
      allowed = allowed_in p rules (and_right ranges allowed two);
      strobed = strobed_in rules.handshake ready p.strobe (and_right (ranges && allowed) strobed h);
    }

pub sound_out : (p : Link) (rules : Rules) → Sound rules p → sound_of p rules ≡ true
unfolding sound_of
sound_out p rules s =
    both _ _ (both _ _ (ranges_out p rules s.ranges) (allowed_out p rules s.allowed))
    (strobed_out rules.handshake (ready_of rules p.held) p.strobe s.strobed)

-- every way
abbrev ways : (Way → Bool) → Bool
ways f = f Input && (f Output && f Direct)

any_way : (f : Way → Bool) → ways f ≡ true → (s : Way) → f s ≡ true
any_way f h Input = and_left _ (f Output && f Direct) h
any_way f h Output = and_left _ (f Direct) (and_right (f Input) _ h)
any_way f h Direct = and_right (f Output) _ (and_right (f Input) _ h)

abbrev any_way_of : Trial Way
any_way_of = record { ok = λ x. Unit {0}; every = ways; any = λ f h x o. any_way f h x }

-- every H2 control
abbrev handshakes : (Handshake → Bool) → Bool
handshakes f = f Sense && (f Negated && (f Asserted && (f Interlocked && f Pulsed)))

any_handshake_lem : (f : Handshake → Bool) → handshakes f ≡ true → (s : Handshake) → f s ≡ true
any_handshake_lem f h Sense = and_left _ (f Negated && (f Asserted && (f Interlocked && f Pulsed))) h
any_handshake_lem f h Negated = and_left _ (f Asserted && (f Interlocked && f Pulsed)) (and_right (f Sense) _ h)
any_handshake_lem f h Asserted = and_left _ (f Interlocked && f Pulsed) (and_right (f Negated) _ (and_right (f Sense) _ h))
any_handshake_lem f h Interlocked = and_left _ (f Pulsed) (and_right (f Asserted) _ (and_right (f Negated) _ (and_right (f Sense) _ h)))
any_handshake_lem f h Pulsed = and_right (f Interlocked) _ (and_right (f Asserted) _ (and_right (f Negated) _ (and_right (f Sense) _ h)))

abbrev any_handshake : Trial Handshake
any_handshake = record { ok = λ x. Unit {0}; every = handshakes; any = λ f h x o. any_handshake_lem f h x }

-- what refusal 8 reads: way, H2 control and enable; bytes held, wait, pulse, asserted handshake and the two edge flags
abbrev Shape : Type 0
Shape = (Way × (Handshake × Bool)) × (ℕ × (ℕ × (ℕ × (Bool × (Bool × Bool)))))

abbrev any_rules : Trial (Way × (Handshake × Bool))
any_rules = any_way_of and (any_handshake and any_bool)

abbrev shapes : Trial Shape
shapes = any_rules and (any_below_of 3 and (any_below_of 5 and (any_below_of 5 and (any_bool and (any_bool and any_bool)))))

-- rules of a shape, with the cells of others: no law of a pair reads whose cells it moves
abbrev rules_at : Rules → Way × (Handshake × Bool) → Rules
rules_at r x = record { way = x.0; handshake = x.1.0; enabled = x.1.1; a = r.a; b = r.b }

-- a pair of a shape, with the register and levels of another
abbrev link_at : Link → Shape → Link
link_at l x =
    link_with l
    l.control
    x.1.0
    (strobe_with l.strobe x.1.1.0 x.1.1.1.0 x.1.1.1.1.0)
    x.1.1.1.1.1.0
    x.1.1.1.1.1.1
    l.level1
    l.level2

-- a wait is one of the shapes tried
wait_small : (s : Way) (n : ℕ) → n ≤ wait_of s → n < 5
wait_small Input n h = omega arith
wait_small Output n h = omega arith
wait_small Direct n h = omega arith

-- what holds of every sound pair of every shape holds of a sound pair
abbrev fits : (Link → Rules → Bool) → Link → Rules → Shape → Bool
fits f l r x = given (sound_of (link_at l x) (rules_at r x.0)) (λ _. f (link_at l x) (rules_at r x.0))

abbrev tried : (Link → Rules → Bool) → Link → Rules → Bool
tried f l r = shapes.every (fits f l r)

from_sound : (f : Link → Rules → Bool) (l : Link) (rules : Rules) → tried f l rules ≡ true → sound_of l rules ≡ true → f l rules ≡ true
from_sound f l rules t h =
    let r = (sound_in l rules h).ranges in
    let x : Shape = ((rules.way, (rules.handshake, rules.enabled)), (l.held, (l.strobe.wait, (l.strobe.pulse, (l.strobe.asserted, (l.flag1, l.flag2)))))) in
    give (sound_of l rules) (λ _. f l rules)
    (shapes.any (fits f l rules) t x ((tt, (tt, tt)), (omega arith, (wait_small rules.way l.strobe.wait r.wait, (omega arith, (tt, (tt, tt)))))))
    h

-- a pair whose edge flags are cleared by a write of PSR
abbrev cleared : Link → Rules → Bool × Bool → Bool
cleared l r x = sound_of (flags_cleared_of l x.0 x.1) r

-- the same rules with another H2 control
abbrev under : Rules → Handshake → Rules
under r h = record { way = r.way; handshake = h; enabled = r.enabled; a = r.a; b = r.b }

-- a pair under another H2 control, which restarts H2 and clears H2S
abbrev switched : Link → Rules → Handshake → Bool
switched l r h = sound_of (restarted_of (with_flags l l.flag1 false) (under r h)) (under r h)

-- or keeps H2S, where the new control is 0XX if the old one was
abbrev stayed : Link → Rules → Handshake → Bool
stayed l r h = given (not (senses_of r.handshake) || senses_of h) (λ _. sound_of (restarted_of l (under r h)) (under r h))

-- the same rules with the enable bit set
abbrev woken : Rules → Rules
woken r = record { way = r.way; handshake = r.handshake; enabled = true; a = r.a; b = r.b }

-- a pair that was not enabled, where readiness may begin then
abbrev wakes : Link → Rules → Bool
wakes l r = given (not r.enabled) (λ _. sound_of (begins_of l (woken r)) (woken r))

-- conditions that all hold, tried as one and then each by itself
abbrev all_true_of : List Bool → Bool
all_true_of [] = true
all_true_of (b ∷ bs) = b && all_true_of bs

abbrev AllTrue : List Bool → Type 0
AllTrue [] = Unit {0}
AllTrue (b ∷ bs) = (b ≡ true) × AllTrue bs

all_true : (bs : List Bool) → all_true_of bs ≡ true → AllTrue bs
all_true [] h = tt
all_true (b ∷ bs) h = (and_left b (all_true_of bs) h, all_true bs (and_right b (all_true_of bs) h))

-- what holds of every sound pair, as conditions tried at once: most shapes are not sound, and that is found out once
all_kept : (f : Link → Rules → List Bool) (l : Link) (rules : Rules) → tried (λ k s. all_true_of (f k s)) l rules ≡ true → sound_of l rules ≡ true → AllTrue (f l rules)
all_kept f l rules t h = all_true (f l rules) (from_sound (λ k s. all_true_of (f k s)) l rules t h)

-- a pair is sound after a clock and after asserted edges
abbrev passes : Link → Rules → List Bool
passes l r = sound_of (clocked_link l r) r ∷ sound_of (first_edge l r) r ∷ sound_of (second_edge l r) r ∷ []

passed : (l : Link) (rules : Rules) → sound_of l rules ≡ true → AllTrue (passes l rules)
unfolding sound_of ranges_of allowed_of strobed_of locked_of movable_of clocked_strobe first_edge moved_count stored_count removed_count second_edge restarted_of
passed l rules = all_kept passes l rules refl

-- and after data reads and writes, writes of PSR, another H2 control and the enable bit set
abbrev accesses : Link → Rules → List Bool
accesses l r =
    sound_of (read_of l r) r
    ∷ sound_of (written_of l r) r
    ∷ (any_bool and any_bool).every (cleared l r)
    ∷ handshakes (switched l r)
    ∷ handshakes (stayed l r)
    ∷ wakes l r
    ∷ []

accessed : (l : Link) (rules : Rules) → sound_of l rules ≡ true → AllTrue (accesses l rules)
unfolding sound_of ranges_of allowed_of strobed_of locked_of movable_of read_count removed_count written_count filled_count counted_of begins_of readied_of restarted_of
accessed l rules = all_kept accesses l rules refl

-- A sound pair stays sound through one clock.
pub clock_kept : (l : Link) (rules : Rules) → sound_of l rules ≡ true → sound_of (clocked_link l rules) rules ≡ true
clock_kept l rules h = (passed l rules h).0

-- A sound pair stays sound through n clocks.
pub clocks_kept : (n : ℕ) (l : Link) (rules : Rules) → sound_of l rules ≡ true → sound_of (clocks_of n l rules) rules ≡ true
unfolding strobe_after
clocks_kept zero l rules h = h
clocks_kept (suc n) l rules h = clocks_kept n (clocked_link l rules) rules (clock_kept l rules h)

-- A sound pair stays sound through an asserted H1 edge.
pub first_edge_kept : (l : Link) (rules : Rules) → sound_of l rules ≡ true → sound_of (first_edge l rules) rules ≡ true
first_edge_kept l rules h = (passed l rules h).1.0

-- A sound pair stays sound through an asserted H2 edge.
pub second_edge_kept : (l : Link) (rules : Rules) → sound_of l rules ≡ true → sound_of (second_edge l rules) rules ≡ true
second_edge_kept l rules h = (passed l rules h).1.1.0

-- A sound pair stays sound through a data read.
pub read_kept : (l : Link) (rules : Rules) → sound_of l rules ≡ true → sound_of (read_of l rules) rules ≡ true
read_kept l rules h = (accessed l rules h).0

-- A sound pair stays sound through a data write.
pub written_kept : (l : Link) (rules : Rules) → sound_of l rules ≡ true → sound_of (written_of l rules) rules ≡ true
written_kept l rules h = (accessed l rules h).1.0

-- A sound pair stays sound through a write of PSR, whichever edge flags it clears.
pub flags_kept : (one two : Bool) (l : Link) (rules : Rules) → sound_of l rules ≡ true → sound_of (flags_cleared_of l one two) rules ≡ true
flags_kept one two l rules h = (any_bool and any_bool).any (cleared l rules) (accessed l rules h).1.1.0 (one, two) (tt, tt)

-- a pair that a change of mode, submode or enable has emptied is sound, whatever it was
flushed_sound : (l : Link) (rules : Rules) → sound_of (flushed_of l rules) rules ≡ true
unfolding sound_of ranges_of allowed_of strobed_of locked_of movable_of flushed_of restarted_of
flushed_sound l rules =
    any_rules.any (λ x. sound_of (flushed_of l (rules_at rules x)) (rules_at rules x)) refl
    (rules.way, (rules.handshake, rules.enabled))
    (tt, (tt, tt))

-- a sound pair is sound under another H2 control, with H2 restarted and H2S cleared
switched_sound : (h : Handshake) (l : Link) (rules : Rules) → sound_of l rules ≡ true → sound_of (restarted_of (with_flags l l.flag1 false) (under rules h)) (under rules h) ≡ true
switched_sound h l rules s = any_handshake_lem (switched l rules) (accessed l rules s).1.1.1.0 h

-- and so it is with H2S kept, where the new control is 0XX if the old one was
stayed_sound : (h : Handshake) (l : Link) (rules : Rules) → sound_of l rules ≡ true → (not (senses_of rules.handshake) || senses_of h) ≡ true
    → sound_of (restarted_of l (under rules h)) (under rules h) ≡ true
stayed_sound h l rules s stays =
    give (not (senses_of rules.handshake) || senses_of h) (λ _. sound_of (restarted_of l (under rules h)) (under rules h))
    (any_handshake_lem (stayed l rules) (accessed l rules s).1.1.1.1.0 h)
    stays

-- refusal 8 reads a pair's control register by its rules alone
control_unread : (v : ℕ) (l : Link) (rules : Rules) → sound_of l rules ≡ true → sound_of (with_control l v) rules ≡ true
unfolding sound_of ranges_of allowed_of
control_unread v l rules h = h

-- and outside levels not at all
pub levels_unread : (x y : Bool) (l : Link) (rules : Rules) → sound_of l rules ≡ true → sound_of (with_levels l x y) rules ≡ true
unfolding sound_of ranges_of allowed_of
levels_unread x y l rules h = h

-- what refusal 8 asks of a pair under PGCR and its own control register
abbrev pub IsSoundUnder : Pair → ℕ → Link → Type 0
IsSoundUnder pair pgcr l = sound_of l (rules_of pair pgcr l.control) ≡ true

-- the same mode field and enable bit say the same
same_mode : (pair : Pair) (old new control : ℕ) → mode_of old ≡ mode_of new → enabled_of pair old ≡ enabled_of pair new → rules_of pair old control ≡ rules_of pair new control
unfolding rules_of way_of handshake_of
same_mode pair old new control e f = rw (e, f)

-- the same mode field with the enable bit set says the same but for that
set_mode : (pair : Pair) (old new control : ℕ) → mode_of old ≡ mode_of new → enabled_of pair new ≡ true → rules_of pair new control ≡ woken (rules_of pair old control)
unfolding rules_of way_of handshake_of
set_mode pair old new control e f = rw (e, f)

-- a bit that becomes 1 was 0
was_clear : (a b : Bool) → beq a b ≡ false → b ≡ true → not a ≡ true
was_clear true true differ on = absurd (true≢false differ)
was_clear true false differ on = absurd (false≢true on)
was_clear false b differ on = refl

-- A sound pair stays sound where its enable bit is set.
woken_sound : (l : Link) (rules : Rules) → sound_of l rules ≡ true → not rules.enabled ≡ true → sound_of (begins_of l (woken rules)) (woken rules) ≡ true
woken_sound l rules s off =
    give (not rules.enabled) (λ _. sound_of (begins_of l (woken rules)) (woken rules)) (accessed l rules s).1.1.1.1.1.0 off

begins_control : (l : Link) (rules : Rules) → (begins_of l rules).control ≡ l.control
unfolding begins_of
begins_control l rules = branch (λ (x : Link). x.control ≡ l.control) (ready_of rules l.held) _ _ (λ _. refl) (λ _. refl)

enabled_by : (pair : Pair) (pgcr control : ℕ) → (rules_of pair pgcr control).enabled ≡ enabled_of pair pgcr
unfolding rules_of
enabled_by pair pgcr control = refl

woken_under : (pair : Pair) (old new : ℕ) (l : Link) → IsSoundUnder pair old l → mode_of old ≡ mode_of new → enabled_of pair new ≡ true → not (enabled_of pair old) ≡ true
    → IsSoundUnder pair new (begins_of l (rules_of pair new l.control))
unfolding begins_of
woken_under pair old new l s e on off =
    rw (begins_control l (rules_of pair new l.control), set_mode pair old new l.control e on)
    (woken_sound l (rules_of pair old l.control) s (rw (enabled_by pair old l.control) off))

-- A sound pair stays sound through a write of PGCR.
pub pgcr_kept : (pair : Pair) (old new : ℕ) (l : Link) → IsSoundUnder pair old l → IsSoundUnder pair new (pgcr_written l pair old new)
unfolding pgcr_written flushed_of restarted_of
pgcr_kept pair old new l s =
    let mode = eqb (mode_of old) (mode_of new) in
    let enable = beq (enabled_of pair old) (enabled_of pair new) in
    let on = enabled_of pair new in
    branch (IsSoundUnder pair new) (mode && enable) l _
    (λ h. rw (← same_mode pair old new l.control (eqb-true _ _ (and_left mode enable h)) (beq_true _ _ (and_right mode enable h))) s)
    (λ h. branch (IsSoundUnder pair new) (mode && on) _ _
    (λ k. let same = and_left mode on k in
    let differ : enable ≡ false = rw same at h in
    let set = and_right mode on k in
    woken_under pair old new l s (eqb-true _ _ same) set (was_clear (enabled_of pair old) on differ set))
    (λ _. flushed_sound l (rules_of pair new l.control)))

-- the same submode and H2 control fields say the same
same_control : (pair : Pair) (pgcr old new : ℕ) → submode_field old ≡ submode_field new → handshake_field old ≡ handshake_field new → rules_of pair pgcr old ≡ rules_of pair pgcr new
unfolding rules_of way_of handshake_of
same_control pair pgcr old new e f = rw (e, f)

same_way : (pgcr old new : ℕ) → submode_field old ≡ submode_field new → way_of pgcr old ≡ way_of pgcr new
unfolding way_of
same_way pgcr old new e = rw e

-- the same submode field leaves all but H2 control
same_under : (pair : Pair) (pgcr old new : ℕ) → submode_field old ≡ submode_field new → under (rules_of pair pgcr old) (handshake_of (way_of pgcr old) new) ≡ rules_of pair pgcr new
unfolding rules_of
same_under pair pgcr old new e = rw (same_way pgcr old new e)

-- where H2 control is 0XX before and after, H2 stays an input
sense_stays : (pair : Pair) (pgcr old new : ℕ) → ltb (handshake_field old) 4 ≡ true → ltb (handshake_field new) 4 ≡ true
    → (not (senses_of (rules_of pair pgcr old).handshake) || senses_of (handshake_of (way_of pgcr old) new)) ≡ true
unfolding rules_of handshake_of
sense_stays pair pgcr old new f g = rw (f, g)

-- A sound pair stays sound through a write of its control register, of any value.
pub control_kept : (pair : Pair) (pgcr v : ℕ) (l : Link) → IsSoundUnder pair pgcr l → IsSoundUnder pair pgcr (control_written l pair pgcr v)
unfolding control_written flushed_of restarted_of
control_kept pair pgcr v l s =
    let old = l.control in
    let q = with_control l v in
    let was = rules_of pair pgcr old in
    let t : sound_of q was ≡ true = control_unread v l was s in
    branch (IsSoundUnder pair pgcr) (not (eqb (submode_field old) (submode_field v))) _ _
    (λ _. flushed_sound q (rules_of pair pgcr v))
    (λ h. let e : submode_field old ≡ submode_field v = eqb-true _ _ (not-false _ h) in
    let next : Handshake = handshake_of (way_of pgcr old) v in
    branch (IsSoundUnder pair pgcr) (eqb (handshake_field old) (handshake_field v)) q _
    (λ f. rw (← same_control pair pgcr old v e (eqb-true _ _ f)) t)
    (λ _. let sensed = ltb (handshake_field old) 4 in
    let senses = ltb (handshake_field v) 4 in
    branch (IsSoundUnder pair pgcr) (sensed && senses) _ _
    (λ f. rw (← same_under pair pgcr old v e) (stayed_sound next q was t (sense_stays pair pgcr old v (and_left sensed senses f) (and_right sensed senses f))))
    (λ _. rw (← same_under pair pgcr old v e) (switched_sound next q was t))))

-- A reset pair is sound under cleared registers, whatever it was.
pub reset_sound : (pair : Pair) (l : Link) → IsSoundUnder pair 0 (reset_link l)
unfolding reset_link rules_of way_of handshake_of enabled_of mode_of submode_field handshake_field bit_of field_of sound_of ranges_of allowed_of strobed_of movable_of
reset_sound H12 l = refl
reset_sound H34 l = refl

-- A fresh pair is sound.
pub fresh_sound : (pair : Pair) → IsSoundUnder pair 0 fresh_link
unfolding fresh_link rules_of way_of handshake_of enabled_of mode_of submode_field handshake_field bit_of field_of sound_of ranges_of allowed_of strobed_of movable_of
fresh_sound H12 = refl
fresh_sound H34 = refl

-- a pair whose control register is this
pub record Controlled (control : ℕ) (l : Link) : Type 0 where
  pub same : l.control ≡ control

-- Edges, reads and writes leave the control register as it is.
pub first_edge_control : (l : Link) (rules : Rules) → Controlled l.control (first_edge l rules)
unfolding first_edge restarted_of
first_edge_control l rules =
    branch (Controlled l.control) (accepts_of rules l.held l.strobe.asserted) _ _
    (λ _. record { same = refl })
    (λ _. branch (Controlled l.control) (rules.enabled && direct_of rules.way) _ _
    (λ _. record { same = refl })
    (λ _. record { same = refl }))

pub second_edge_control : (l : Link) (rules : Rules) → Controlled l.control (second_edge l rules)
unfolding second_edge
second_edge_control l rules =
    branch (Controlled l.control) (rules.enabled && senses_of rules.handshake) _ _ (λ _. record { same = refl }) (λ _. record { same = refl })

pub counted_control : (l : Link) (rules : Rules) (n : ℕ) → Controlled l.control (counted_of l rules n)
unfolding counted_of
counted_control l rules n =
    branch (Controlled l.control) (not (ready_of rules l.held) && ready_of rules n) _ _
    (λ _. record { same = refl })
    (λ _. record { same = refl })

-- what holds of a pair under its old control register holds under its own, where that is the same
pub carried : (pair : Pair) (pgcr control : ℕ) (l : Link) → Controlled control l → sound_of l (rules_of pair pgcr control) ≡ true → IsSoundUnder pair pgcr l
carried pair pgcr control l k h = subst (λ (c : ℕ). sound_of l (rules_of pair pgcr c) ≡ true) (sym k.same) h
