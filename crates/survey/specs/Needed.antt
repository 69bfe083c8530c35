-- What playing events needs, known without playing them (01, 'The event list').
use Rattle.std.specs.Prelude.{ℕ, ◌+◌, ◌≤◌, ◌≡◌, refl, List, [], ◌∷◌, length, Option, Some, None}
use Rattle.std.proofs.Common.{sym, ap, ◌∙◌, add-zero, add_assoc, arith, length-append}
use Rattle.event.specs.declared.Event.{Event}
use Rattle.event.specs.declared.Event.TheVariants.{Write, Read, PortAcknowledge, TimerAcknowledge, Pin, Clocks, Reset}
use Rattle.wire.specs.Needs.{answers_in, clocks_in, needs_of}
use Rattle.device.specs.ManyClocks.{at_most}
use Rattle.device.specs.Events.{answer_bytes, effect, made}
use Rattle.device.specs.Interrupts.{port_acknowledge, timer_acknowledge}
use Rattle.device.specs.declared.Device.{Device}

-- an acknowledge answers two bytes
pub two_bytes : (a : Option ℕ) → length (answer_bytes a) ≡ 2
two_bytes (Some v) = refl
two_bytes None = refl

-- each read and each acknowledge appends two answer bytes
pub event_answers : (d : Device) (k : ℕ) (e : Event) → length (effect d k e).answers ≡ answers_in e
unfolding effect
event_answers d k (Write r v) = refl
event_answers d k (Read r) = refl
event_answers d k PortAcknowledge = two_bytes (port_acknowledge d)
event_answers d k TimerAcknowledge = two_bytes (timer_acknowledge d)
event_answers d k (Pin n l) = refl
event_answers d k (Clocks n) = refl
event_answers d k Reset = refl

pub answers_needed : (d : Device) (k : ℕ) (es : List Event) → length (made d k es).answers ≡ (needs_of es).answers
unfolding made needs_of
answers_needed d k [] = refl
answers_needed d k (e ∷ es) =
    rw (length-append, event_answers d k e, answers_needed (effect d k e).device (effect d k e).clocks es)

-- clocks pass by clocks events alone
pub event_clocks : (d : Device) (k : ℕ) (e : Event) → (effect d k e).clocks ≡ k + clocks_in e
unfolding effect
event_clocks d k (Write r v) = sym (add-zero k)
event_clocks d k (Read r) = sym (add-zero k)
event_clocks d k PortAcknowledge = sym (add-zero k)
event_clocks d k TimerAcknowledge = sym (add-zero k)
event_clocks d k (Pin n l) = sym (add-zero k)
event_clocks d k (Clocks n) = refl
event_clocks d k Reset = sym (add-zero k)

pub clocks_passed : (d : Device) (k : ℕ) (es : List Event) → (made d k es).clocks ≡ k + (needs_of es).clocks
unfolding made needs_of
clocks_passed d k [] = sym (add-zero k)
clocks_passed d k (e ∷ es) =
    clocks_passed (effect d k e).device (effect d k e).clocks es
    ∙ ap (λ (n : ℕ). n + (needs_of es).clocks) (event_clocks d k e)
    ∙ add_assoc k (clocks_in e) (needs_of es).clocks

-- an event opens at most once a clock, and one that is no clocks event not at all
pub event_openings : (d : Device) (k : ℕ) (e : Event) → length (effect d k e).openings ≤ clocks_in e
unfolding effect
event_openings d k (Write r v) = omega arith
event_openings d k (Read r) = omega arith
event_openings d k PortAcknowledge = omega arith
event_openings d k TimerAcknowledge = omega arith
event_openings d k (Pin n l) = omega arith
event_openings d k (Clocks n) = at_most n k d
event_openings d k Reset = omega arith

-- and so events have at most as many openings as clocks
pub openings_few : (d : Device) (k : ℕ) (es : List Event) → length (made d k es).openings ≤ (needs_of es).clocks
unfolding made needs_of
openings_few d k [] = omega arith
openings_few d k (e ∷ es) =
    let m = effect d k e in
    let r = made m.device m.clocks es in
    omega (arith, length-append m.openings r.openings, event_openings d k e, openings_few m.device m.clocks es)
