-- A fresh port and a fresh pair, and reset (01, 'A fresh device'; 000, 1.2.6).
use Rattle.std.specs.Prelude.{true, false}
use Rattle.port.specs.Parts.{with_direction, with_control, with_held, with_strobe, with_flags}
use Rattle.port.specs.declared.Port.{Port}
use Rattle.port.specs.declared.Strobe.{Strobe}
use Rattle.port.specs.declared.Link.{Link}

-- latches zero, every outside level high
unfoldable pub fresh_port : Port
fresh_port = record {
  direction = 0;
  cells = record { latch = 0; initial = 0; first = 0; second = 0; last = 0 };
  outside = 0xff;
}

-- reset clears the direction; data latches, the last byte read and the outside levels are kept
unfoldable pub reset_port : Port → Port
reset_port p = with_direction p 0

-- H2 with neither wait, pulse nor assertion
abbrev pub still : Strobe
still = record { wait = 0; pulse = 0; asserted = false }

unfoldable pub fresh_link : Link
fresh_link = record { control = 0; held = 0; strobe = still; flag1 = false; flag2 = false; level1 = true; level2 = true }

-- reset clears control, status and handshake; the outside levels are kept
unfoldable pub reset_link : Link → Link
reset_link l = with_strobe (with_flags (with_held (with_control l 0) 0) false false) still
