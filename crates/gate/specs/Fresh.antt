-- A fresh gate, and reset (01, 'A fresh device'; 000, 1.2.6 and 4.14).
use Rattle.port_c.specs.Fresh.{fresh_c, reset_c}
use Rattle.timer.specs.Registers.{fresh_timer, reset_of}
use Rattle.gate.specs.Parts.{with_timer, with_c}
use Rattle.gate.specs.declared.Gate.{Gate}

unfoldable pub fresh_gate : Gate
fresh_gate = record { timer = fresh_timer; c = fresh_c }

-- preload, counter, port C's latch and its outside levels are kept
unfoldable pub reset_gate : Gate → Gate
reset_gate g = with_c (with_timer g (reset_of g.timer)) (reset_c g.c)
