-- The openings of a list: every moment at which the timer opens, each once, in order, and no other.
use Rattle.std.specs.Prelude.{ℕ, zero, suc, ◌+◌, Bool, true, false, not, ◌&&◌, List, [], ◌∷◌, ◌++◌, ◌≡◌, refl, eqb, replicate}
use Rattle.std.proofs.Common.{append-nil, ap, ◌∙◌, add-zero, add-one, arith, eqb-true, ne_eqb}
use Rattle.std.specs.Int.Bits.{bit_and}
use Rattle.bits.specs.Choice.{branch}
use Rattle.bits.specs.Field.{bit_of}
use Rattle.event.specs.declared.Event.{Event}
use Rattle.event.specs.declared.Event.TheVariants.{Write, Read, PortAcknowledge, TimerAcknowledge, Pin, Clocks, Reset}
use Rattle.port_c.specs.Pins.{tin_level}
use Rattle.timer.specs.Control.{tcr_bits, source_of, runs_of, by_rises, clock_steps}
use Rattle.timer.specs.Counting.{scaled_of, count_of, step_of, quiet}
use Rattle.timer.specs.Parts.{with_prescaler, with_zds, with_rise}
use Rattle.timer.specs.Running.{tin_goes, risen_of, takes_rise, clocked_timer, mark}
use Rattle.timer.specs.Registers.{switched_of, controlled_of, cleared_of, preloaded_of, reset_of as reset_timer}
use Rattle.timer.specs.declared.Timer.{Timer}
use Rattle.timer.specs.declared.Stepped.{Stepped}
use Rattle.clocks.specs.Numbers.{Rising, openings_rise, rising_append}
use Rattle.clocks.specs.Spans.{mark_append}
use Rattle.gate.specs.Clocking.{clocked_gate}
use Rattle.gate.specs.Fresh.{reset_gate}
use Rattle.gate.specs.Pins.{tin_event}
use Rattle.gate.specs.Registers.{write_tcr, write_preload, write_tsr}
use Rattle.gate.specs.declared.Gate.{Gate}
use Rattle.device.specs.Clocking.{clocked_device, after, openings}
use Rattle.device.specs.Fresh.{reset_of}
use Rattle.device.specs.Pins.{pin_of}
use Rattle.device.specs.Registers.{read_of, write_of}
use Rattle.device.specs.ManyClocks.{opens}
use Rattle.device.specs.Events.{Made, silently, joined, effect, made}
use Rattle.device.specs.Following.{write_gate, read_gate, pin_gate}
use Rattle.device.specs.declared.Device.{Device}
use Rattle.survey.specs.Needed.{event_clocks, clocks_passed}
use Rattle.promises.specs.Prefixes.{prefix}
use Rattle.laws.specs.Touching.{any_write, any_gate_pin}
use Rattle.promises.specs.Moments.{single, singly, lowers_to_zero, moments}

-- t is left as c, and opened exactly when that lowered the counter from 1 to 0
abbrev OpensRightly : Timer → Stepped Timer → Type 0
OpensRightly t c = c.opened ≡ lowers_to_zero t c.part

-- a counter that is kept is not lowered
both_never : (b : Bool) (n : ℕ) → false ≡ (b && eqb n 1 && eqb n 0)
both_never true zero = refl
both_never true (suc zero) = refl
both_never true (suc (suc n)) = rw (ne_eqb (suc (suc n)) 1 (λ o. omega arith))
both_never false n = refl

kept : (t : Timer) → OpensRightly t (quiet t)
kept t = both_never (not t.phase.due) t.count.0

-- A count opens exactly when no load is due and it lowers the counter from 1 to 0; loading 0 is none, even over a kept 1.
pub count_opens : (t : Timer) → OpensRightly t (count_of t)
unfolding count_of
count_opens t =
    branch (OpensRightly t) t.phase.due _ _ (λ e. rw e)
    (λ no.
    branch (OpensRightly t) (eqb t.count.0 0) _ _ (λ e.
    let z : eqb t.count.0 1 ≡ false = ne_eqb t.count.0 1 (λ o. omega (arith, eqb-true t.count.0 0 e)) in
    rw (no, z))
    (λ _. branch (OpensRightly t) (eqb t.count.0 1) _ _ (λ e. rw (no, e)) (λ e. rw (no, e))))

step_opens : (t : Timer) → OpensRightly t (step_of t)
unfolding step_of
step_opens t =
    let u = with_prescaler t (scaled_of t.phase.prescaler).prescaler in
    branch (OpensRightly t) (scaled_of t.phase.prescaler).counts (count_of u) (quiet u) (λ _. count_opens u) (λ _. kept u)

-- So does the step of a held rise,
rise_opens : (t : Timer) → OpensRightly t (risen_of t)
unfolding risen_of
rise_opens t =
    branch (OpensRightly t) (eqb (source_of t.tcr) 2) _ _ (λ _. step_opens (with_rise t false)) (λ _. count_opens (with_rise t false))

-- and a clock.
pub clock_opens : (tin : Bool) (t : Timer) → OpensRightly t (clocked_timer tin t)
unfolding clocked_timer
clock_opens tin t =
    branch (OpensRightly t) (clock_steps t.tcr tin) _ _ (λ _. step_opens t)
    (λ _. branch (OpensRightly t) (takes_rise t tin) _ _ (λ _. rise_opens t) (λ _. kept t))

-- an event that keeps the counter opens nothing
write_keeps : (d : Device) (r v : ℕ) → false ≡ lowers_to_zero d.gate.timer (write_of d r v).gate.timer
unfolding write_tcr write_preload write_tsr controlled_of switched_of preloaded_of cleared_of
write_keeps d r v =
    let t = d.gate.timer in
    let same = kept t in
    rw (write_gate d r v)
    (any_write (λ (x : Gate). false ≡ lowers_to_zero t x.timer) d.gate r v
    (λ x a. rw a.timer same)
    (λ _. branch (λ (x : Timer). false ≡ lowers_to_zero t x) (runs_of (bit_and v tcr_bits) (tin_level d.gate.c)) _ _ (λ _. same) (λ _. same))
    (λ _. same)
    (λ _ _. same)
    (λ _. branch (λ (x : Timer). false ≡ lowers_to_zero t x) (bit_of v 0) (with_zds t false) t (λ _. same) (λ _. same)))

read_keeps : (d : Device) (r : ℕ) → false ≡ lowers_to_zero d.gate.timer (read_of d r).device.gate.timer
read_keeps d r = rw (read_gate d r) (kept d.gate.timer)

tin_keeps : (t : Timer) (old new : Bool) → false ≡ lowers_to_zero t (tin_goes t old new)
unfolding tin_goes
tin_keeps t old new =
    let P : Timer → Type 0 = λ x. false ≡ lowers_to_zero t x in
    branch P (not (runs_of t.tcr new)) _ _ (λ _. branch P (runs_of t.tcr old) _ _ (λ _. kept t) (λ _. kept t))
    (λ _. branch P (by_rises t.tcr && (not old && new)) _ _ (λ _. kept t) (λ _. kept t))

pin_keeps : (d : Device) (n : ℕ) (level : Bool) → false ≡ lowers_to_zero d.gate.timer (pin_of d n level).gate.timer
unfolding tin_event
pin_keeps d n level =
    rw (pin_gate d n level)
    (any_gate_pin (λ (x : Gate). false ≡ lowers_to_zero d.gate.timer x.timer) d.gate n level
    (λ x a. rw a.timer (kept d.gate.timer))
    (λ _. tin_keeps d.gate.timer (tin_level d.gate.c) level))

-- n single clocks are n clocks
one_and_more : (n : ℕ) (d : Device) (k : ℕ) → joined (effect d k (Clocks 1)) (effect (after 1 d) (k + 1) (Clocks n)) ≡ effect d k (Clocks (suc n))
unfolding effect after openings
one_and_more n d k =
    let o = mark_append (clocked_device d).opened (suc k) [] (openings n (k + 1) (clocked_device d).part) in
    let p : k + 1 ≡ suc k = add-one k in
    let q : k + 1 + n ≡ k + suc n = omega arith in
    λ i. record {
      device = after n (clocked_device d).part;
      answers = [];
      openings = (o ∙ ap (λ (x : ℕ). mark (clocked_device d).opened (suc k) (openings n x (clocked_device d).part)) p) i;
      clocks = q i;
    }

clocks_made : (n : ℕ) (d : Device) (k : ℕ) → made d k (replicate n (Clocks 1)) ≡ effect d k (Clocks n)
unfolding made effect after openings
clocks_made zero d k = rw add-zero
clocks_made (suc n) d k = ap (joined (effect d k (Clocks 1))) (clocks_made n (after 1 d) (k + 1)) ∙ one_and_more n d k

nothing_more : (m : Made) → joined m (silently m.device m.clocks) ≡ m
nothing_more m = simp append-nil

single_made : (e : Event) (d : Device) (k : ℕ) → made d k (single e) ≡ effect d k e
unfolding made
single_made (Write r v) d k = nothing_more (effect d k (Write r v))
single_made (Read r) d k = nothing_more (effect d k (Read r))
single_made PortAcknowledge d k = nothing_more (effect d k PortAcknowledge)
single_made TimerAcknowledge d k = nothing_more (effect d k TimerAcknowledge)
single_made (Pin n level) d k = nothing_more (effect d k (Pin n level))
single_made (Clocks n) d k = clocks_made n d k
single_made Reset d k = nothing_more (effect d k Reset)

-- 'A long clocks event .. must equal single clocks.'
pub single_clocks : (es : List Event) (d : Device) (k : ℕ) → made d k (singly es) ≡ made d k es
unfolding made singly
single_clocks [] d k = refl
single_clocks (e ∷ es) d k =
    prefix (single e) (singly es) d k
    ∙ ap (λ (m : Made). joined m (made m.device m.clocks (singly es))) (single_made e d k)
    ∙ ap (joined (effect d k e)) (single_clocks es (effect d k e).device (effect d k e).clocks)

-- the moments of n single clocks
clocks_moments : (n : ℕ) (d : Device) (k : ℕ) → moments d k (replicate n (Clocks 1)) ≡ openings n k d
unfolding moments effect after openings clocked_device clocked_gate
clocks_moments zero d k = refl
clocks_moments (suc n) d k = rw (clocks_moments n (clocked_device d).part (k + 1), ← (clock_opens (tin_level d.gate.c) d.gate.timer), add-one)

single_moments : (e : Event) (d : Device) (k : ℕ) → moments d k (single e) ≡ (effect d k e).openings
unfolding moments effect reset_of reset_gate reset_timer
single_moments (Write r v) d k = rw (← (write_keeps d r v))
single_moments (Read r) d k = rw (← (read_keeps d r))
single_moments PortAcknowledge d k = rw (← (kept d.gate.timer))
single_moments TimerAcknowledge d k = rw (← (kept d.gate.timer))
single_moments (Pin n level) d k = rw (← (pin_keeps d n level))
single_moments (Clocks n) d k = clocks_moments n d k
single_moments Reset d k = rw (← (kept d.gate.timer))

moments_append : (xs ys : List Event) (d : Device) (k : ℕ) → moments d k (xs ++ ys) ≡ moments d k xs ++ moments (made d k xs).device (made d k xs).clocks ys
unfolding moments made
moments_append [] ys d k = refl
moments_append (e ∷ xs) ys d k = rw (mark_append, moments_append xs ys (effect d k e).device (effect d k e).clocks)

-- The openings of a list are the moments at which it opens, followed one clock and one event at a time: each once, and no other.
pub openings_are_moments : (es : List Event) (d : Device) (k : ℕ) → (made d k es).openings ≡ moments d k (singly es)
unfolding moments made singly
openings_are_moments [] d k = refl
openings_are_moments (e ∷ es) d k =
    rw (
      moments_append (single e) (singly es) d k,
      single_moments e d k,
      single_made e d k,
      openings_are_moments es (effect d k e).device (effect d k e).clocks,
    )

-- of n clocks after clock k those that open are numbered past k, up to k + n, and rise
clocks_rise : (n : ℕ) (d : Device) (k : ℕ) → Rising k (k + n) (openings n k d)
clocks_rise n d k = rw (opens n k d) (openings_rise (tin_level d.gate.c) n k d.gate.timer)

-- an event's numbers rise: it is clocks alone that open
event_rises : (e : Event) (d : Device) (k : ℕ) → Rising k (effect d k e).clocks (effect d k e).openings
unfolding effect
event_rises (Write r v) d k = tt
event_rises (Read r) d k = tt
event_rises PortAcknowledge d k = tt
event_rises TimerAcknowledge d k = tt
event_rises (Pin n level) d k = tt
event_rises (Clocks n) d k = clocks_rise n d k
event_rises Reset d k = tt

-- 02, R-2: 'an opening now falls only on a clock, so numbers rise strictly'. The first is past the clocks that had passed before, and
-- none is past those that have passed in the end.
pub rise_strictly : (es : List Event) (d : Device) (k : ℕ) → Rising k (made d k es).clocks (made d k es).openings
unfolding made
rise_strictly [] d k = tt
rise_strictly (e ∷ es) d k =
    let c = (effect d k e).clocks in
    let f = (effect d k e).device in
    rising_append k c (made f c es).clocks (effect d k e).openings (made f c es).openings
    (omega (arith, event_clocks d k e)) (omega (arith, clocks_passed f c es)) (event_rises e d k) (rise_strictly es f c)
