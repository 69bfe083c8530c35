-- Port C with one part changed.
use Rattle.std.specs.Prelude.{ℕ}
use Rattle.port_c.specs.declared.PortC.{PortC}

-- the one place where port C is spelled out from another
abbrev pub port_c_with : PortC → ℕ → ℕ → ℕ → PortC
port_c_with c direction latch outside = record { direction = direction; latch = latch; outside = outside }

abbrev pub with_direction : PortC → ℕ → PortC
with_direction c v = port_c_with c v c.latch c.outside

abbrev pub with_latch : PortC → ℕ → PortC
with_latch c v = port_c_with c c.direction v c.outside

abbrev pub with_outside : PortC → ℕ → PortC
with_outside c v = port_c_with c c.direction c.latch v
