-- A gate with one part changed.
use Rattle.port_c.specs.declared.PortC.{PortC}
use Rattle.timer.specs.declared.Timer.{Timer}
use Rattle.gate.specs.declared.Gate.{Gate}

-- the one place where a gate is spelled out from another
abbrev pub gate_with : Gate → Timer → PortC → Gate
gate_with g timer c = record { timer = timer; c = c }

abbrev pub with_timer : Gate → Timer → Gate
with_timer g t = gate_with g t g.c

abbrev pub with_c : Gate → PortC → Gate
with_c g c = gate_with g g.timer c
