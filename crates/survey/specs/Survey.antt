-- How many openings a list has on a device (01, 'The event list', refusal 7).
use Rattle.std.specs.Prelude.{ℕ, length}
use Rattle.wire.specs.List.{Parsed, events, refused}
use Rattle.device.specs.Events.{made}
use Rattle.device.specs.declared.Device.{Device}

-- those of its events; a refused list plays nothing
abbrev pub opened_by : Device → Parsed → ℕ
opened_by d (events es) = length (made d 0 es).openings
opened_by d (refused r p) = 0
