-- Ports and pairs with one part changed, a pair by its name, its own port, and what the registers say of it.
use Rattle.std.specs.Prelude.{ℕ}
use Rattle.port.specs.Control.{rules_of}
use Rattle.port.specs.Parts.{with_cells as port_cells}
use Rattle.port.specs.declared.Pair.{Pair}
use Rattle.port.specs.declared.Pair.TheVariants.{H12, H34}
use Rattle.port.specs.declared.Cells.{Cells}
use Rattle.port.specs.declared.Port.{Port}
use Rattle.port.specs.declared.Link.{Link}
use Rattle.port.specs.declared.Rules.{Rules}
use Rattle.parallel.specs.declared.Parallel.{Parallel}

-- the one place where they are spelled out from others
abbrev pub parallel_with : Parallel → ℕ → ℕ → ℕ → Port → Port → Link → Link → Parallel
parallel_with p pgcr psrr pivr a b h12 h34 = record { pgcr = pgcr; psrr = psrr; pivr = pivr; a = a; b = b; h12 = h12; h34 = h34 }

-- PGCR, PSRR and PIVR
abbrev pub with_registers : Parallel → ℕ → ℕ → ℕ → Parallel
with_registers p pgcr psrr pivr = parallel_with p pgcr psrr pivr p.a p.b p.h12 p.h34

abbrev pub with_ports : Parallel → Port → Port → Parallel
with_ports p a b = parallel_with p p.pgcr p.psrr p.pivr a b p.h12 p.h34

abbrev pub with_links : Parallel → Link → Link → Parallel
with_links p one two = parallel_with p p.pgcr p.psrr p.pivr p.a p.b one two

abbrev pub with_cells : Parallel → Cells → Cells → Parallel
with_cells p a b = with_ports p (port_cells p.a a) (port_cells p.b b)

-- a pair
unfoldable pub link_of : Parallel → Pair → Link
link_of p H12 = p.h12
link_of p H34 = p.h34

unfoldable pub with_link : Parallel → Pair → Link → Parallel
with_link p H12 l = with_links p l p.h34
with_link p H34 l = with_links p p.h12 l

-- its own port: A of H1 and H2, B of H3 and H4
unfoldable pub own_port : Parallel → Pair → Port
own_port p H12 = p.a
own_port p H34 = p.b

-- what the registers say of it
unfoldable pub rules_at : Parallel → Pair → Rules
rules_at p pair = rules_of pair p.pgcr (link_of p pair).control
