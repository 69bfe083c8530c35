-- A list followed one clock and one event at a time, with the moments at which the timer opens (01, 'Timer', 'The event list').
use Rattle.std.specs.Prelude.{ℕ, Bool, not, ◌&&◌, List, [], ◌∷◌, ◌++◌, eqb, replicate}
use Rattle.event.specs.declared.Event.{Event}
use Rattle.event.specs.declared.Event.TheVariants.{Write, Read, PortAcknowledge, TimerAcknowledge, Pin, Clocks, Reset}
use Rattle.timer.specs.Running.{mark}
use Rattle.timer.specs.declared.Timer.{Timer}
use Rattle.device.specs.Events.{effect}
use Rattle.device.specs.declared.Device.{Device}

-- a clocks event as single clocks; any other event as it is
abbrev pub single : Event → List Event
single (Write r v) = Write r v ∷ []
single (Read r) = Read r ∷ []
single PortAcknowledge = PortAcknowledge ∷ []
single TimerAcknowledge = TimerAcknowledge ∷ []
single (Pin n level) = Pin n level ∷ []
single (Clocks n) = replicate n (Clocks 1)
single Reset = Reset ∷ []

unfoldable pub singly : List Event → List Event
singly [] = []
singly (e ∷ es) = single e ++ singly es

-- 'Lowering from 1 to 0 is an opening': no load was due, the counter was at 1, and is at 0
abbrev pub lowers_to_zero : Timer → Timer → Bool
lowers_to_zero t u = not t.phase.due && eqb t.count.0 1 && eqb u.count.0 0

-- at each event where the counter is lowered from 1 to 0, the number of clocks passed by then: the clock's own number, since no other
-- event lowers it (02, R-2)
unfoldable pub moments : Device → ℕ → List Event → List ℕ
moments d k [] = []
moments d k (e ∷ es) =
    mark (lowers_to_zero d.gate.timer (effect d k e).device.gate.timer) (effect d k e).clocks
    (moments (effect d k e).device (effect d k e).clocks es)
