-- When a gate may be handed in (01, refusal 8).
use Rattle.std.specs.Prelude.{Bool}
use Rattle.port_c.specs.Pins.{tin_level}
use Rattle.timer.specs.Validity.{sound_of}
use Rattle.gate.specs.declared.Gate.{Gate}

-- a sound timer, with TIN at its level
unfoldable pub sound_gate : Gate → Bool
sound_gate g = sound_of g.timer (tin_level g.c)
