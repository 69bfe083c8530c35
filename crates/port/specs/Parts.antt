-- A port, its cells, a pair and its handshake with one part changed. Each is spelled out from another in one place; cells as places of
-- the two-place buffer, and back.
use Rattle.std.specs.Prelude.{ℕ, Bool}
use Rattle.port.specs.Buffering.{Places}
use Rattle.port.specs.declared.Cells.{Cells}
use Rattle.port.specs.declared.Port.{Port}
use Rattle.port.specs.declared.Strobe.{Strobe}
use Rattle.port.specs.declared.Link.{Link}

-- a port's cells are places of bytes
abbrev pub places_of : Cells → Places ℕ
places_of c = record { latch = c.latch; initial = c.initial; first = c.first; second = c.second; last = c.last }

abbrev pub cells_of : Places ℕ → Cells
cells_of p = record { latch = p.latch; initial = p.initial; first = p.first; second = p.second; last = p.last }

abbrev pub port_with : Port → ℕ → Cells → ℕ → Port
port_with p direction cells outside = record { direction = direction; cells = cells; outside = outside }

abbrev pub with_direction : Port → ℕ → Port
with_direction p v = port_with p v p.cells p.outside

abbrev pub with_cells : Port → Cells → Port
with_cells p c = port_with p p.direction c p.outside

abbrev pub with_outside : Port → ℕ → Port
with_outside p v = port_with p p.direction p.cells v

abbrev pub strobe_with : Strobe → ℕ → ℕ → Bool → Strobe
strobe_with s wait pulse asserted = record { wait = wait; pulse = pulse; asserted = asserted }

abbrev pub with_wait : Strobe → ℕ → Strobe
with_wait s n = strobe_with s n s.pulse s.asserted

abbrev pub with_pulse : Strobe → ℕ → Strobe
with_pulse s n = strobe_with s s.wait n s.asserted

abbrev pub with_asserted : Strobe → Bool → Strobe
with_asserted s on = strobe_with s s.wait s.pulse on

abbrev pub link_with : Link → ℕ → ℕ → Strobe → Bool → Bool → Bool → Bool → Link
link_with l control held strobe flag1 flag2 level1 level2 = record {
  control = control;
  held = held;
  strobe = strobe;
  flag1 = flag1;
  flag2 = flag2;
  level1 = level1;
  level2 = level2;
}

abbrev pub with_control : Link → ℕ → Link
with_control l v = link_with l v l.held l.strobe l.flag1 l.flag2 l.level1 l.level2

abbrev pub with_held : Link → ℕ → Link
with_held l n = link_with l l.control n l.strobe l.flag1 l.flag2 l.level1 l.level2

abbrev pub with_strobe : Link → Strobe → Link
with_strobe l s = link_with l l.control l.held s l.flag1 l.flag2 l.level1 l.level2

abbrev pub with_flags : Link → Bool → Bool → Link
with_flags l one two = link_with l l.control l.held l.strobe one two l.level1 l.level2

abbrev pub with_levels : Link → Bool → Bool → Link
with_levels l one two = link_with l l.control l.held l.strobe l.flag1 l.flag2 one two
