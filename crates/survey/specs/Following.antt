-- Who follows the gate alone counts what the whole part opens.
use Rattle.std.specs.Prelude.{ℕ, zero, suc, ◌+◌, ◌≤◌, ◌≡◌, refl, Bool, true, false, List, [], ◌∷◌, length}
use Rattle.std.proofs.Common.{sym, ap, ◌∙◌, add-zero, zero-add, add_assoc, arith, length-append}
use Rattle.event.specs.declared.Event.{Event}
use Rattle.event.specs.declared.Event.TheVariants.{Write, Read, PortAcknowledge, TimerAcknowledge, Pin, Clocks, Reset}
use Rattle.port_c.specs.Pins.{tin_level}
use Rattle.timer.specs.Running.{clocked_timer, openings as timer_openings, mark}
use Rattle.timer.specs.declared.Timer.{Timer}
use Rattle.clocks.specs.Numbers.{at_most}
use Rattle.gate.specs.declared.Gate.{Gate}
use Rattle.wire.specs.List.{Parsed, events, refused, prepend}
use Rattle.wire.specs.Needs.{clocks_in}
use Rattle.device.specs.Events.{effect, made}
use Rattle.device.specs.Following.{followed, opens_by, gate_follows, gate_opens}
use Rattle.device.specs.declared.Device.{Device}
use Rattle.survey.specs.Survey.{opened_by}

-- how many of n clocks open, from whichever number they are counted on
same_many : (level : Bool) (n k j : ℕ) (t : Timer) → length (timer_openings level n k t) ≡ length (timer_openings level n j t)
unfolding timer_openings
same_many level zero k j t = refl
same_many level (suc n) k j t =
    marked (clocked_timer level t).opened _ _ (same_many level n (suc k) (suc j) (clocked_timer level t).part)
  where
    marked : (b : Bool) (l m : List ℕ) → length l ≡ length m → length (mark b (suc k) l) ≡ length (mark b (suc j) m)
    marked true l m e = ap suc e
    marked false l m e = e

-- how often an event opens a gate
abbrev pub opens_at : Gate → Event → ℕ
opens_at g e = length (opens_by g 0 e)

opens_at_lem : (g : Gate) (k : ℕ) (e : Event) → length (opens_by g k e) ≡ opens_at g e
opens_at_lem g k (Write r v) = refl
opens_at_lem g k (Read r) = refl
opens_at_lem g k PortAcknowledge = refl
opens_at_lem g k TimerAcknowledge = refl
opens_at_lem g k (Pin n level) = refl
opens_at_lem g k (Clocks n) = same_many (tin_level g.c) n k 0 g.timer
opens_at_lem g k Reset = refl

-- at most once a clock
pub opens_few : (g : Gate) (e : Event) → opens_at g e ≤ clocks_in e
opens_few g (Write r v) = omega arith
opens_few g (Read r) = omega arith
opens_few g PortAcknowledge = omega arith
opens_few g TimerAcknowledge = omega arith
opens_few g (Pin n level) = omega arith
opens_few g (Clocks n) = at_most (tin_level g.c) n 0 g.timer
opens_few g Reset = omega arith

-- how often events in turn open it
unfoldable pub opened_from : Gate → List Event → ℕ
opened_from g [] = 0
opened_from g (e ∷ es) = opens_at g e + opened_from (followed g e) es

counts : (es : List Event) (d : Device) (k : ℕ) → length (made d k es).openings ≡ opened_from d.gate es
unfolding opened_from made
counts [] d k = refl
counts (e ∷ es) d k =
    let m = effect d k e in
    let r = made m.device m.clocks es in
    let first : length m.openings ≡ opens_at d.gate e = ap length (gate_opens d k e) ∙ opens_at_lem d.gate k e in
    let then : length r.openings ≡ opened_from (followed d.gate e) es = counts es m.device m.clocks ∙ ap (λ (g : Gate). opened_from g es) (gate_follows d k e) in
    length-append m.openings r.openings ∙ rw (first, then) refl

-- what who counted so many makes of what is left
abbrev pub going_on : Gate → ℕ → Parsed → ℕ
going_on g n (events es) = n + opened_from g es
going_on g n (refused r p) = 0

pub from_start : (d : Device) (P : Parsed) → going_on d.gate 0 P ≡ opened_by d P
from_start d (events es) = zero-add (opened_from d.gate es) ∙ sym (counts es d 0)
from_start d (refused r p) = refl

pub event_first : (g : Gate) (n : ℕ) (e : Event) (P : Parsed) → going_on (followed g e) (n + opens_at g e) P ≡ going_on g n (prepend e P)
unfolding opened_from
event_first g n e (events es) = add_assoc n (opens_at g e) (opened_from (followed g e) es)
event_first g n e (refused r p) = refl

pub at_end_lem : (g : Gate) (n : ℕ) → n ≡ going_on g n (events [])
unfolding opened_from
at_end_lem g n = sym (add-zero n)
