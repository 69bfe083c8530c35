-- What the pins of ports A and B and the handshake pins show, and levels that come to the handshake pins (01, 'Registers', 'Mode 0'; 000,
-- 1.2.8, 1.2.9, 2.4 and 2.6).
use Rattle.std.specs.Prelude.{ℕ, Bool, not, ◌&&◌, List, [], ◌∷◌, if◌then◌else◌}
use Rattle.std.specs.Bool.{beq}
use Rattle.bits.specs.Field.{chosen_of, with_bit}
use Rattle.bits.specs.Tables.{Entry, at, from, find}
use Rattle.event.specs.Map.{PA0, PB0, H1, H2, H3, H4, lines}
use Rattle.port.specs.Control.{first_sense, second_sense}
use Rattle.port.specs.Moving.{moved_of}
use Rattle.port.specs.Handshaking.{accepts_of}
use Rattle.port.specs.Parts.{with_outside, with_levels}
use Rattle.port.specs.Edges.{first_edge as first_link, second_edge as second_link}
use Rattle.port.specs.Status.{second_level as link_level}
use Rattle.port.specs.declared.Pair.{Pair}
use Rattle.port.specs.declared.Pair.TheVariants.{H12, H34}
use Rattle.parallel.specs.Parts.{link_of, with_link, with_ports, own_port, with_cells, rules_at}
use Rattle.parallel.specs.declared.Parallel.{Parallel}

-- the eight pins of a pair's own port: a pin whose output buffer is on shows its latch; otherwise the outside level
unfoldable pub pins_of : Parallel → Pair → ℕ
pins_of p pair = chosen_of (own_port p pair).outside (own_port p pair).cells.latch (own_port p pair).direction

-- an edge happens only at a pin event that changes the level; it is asserted where it leads to the level of its sense
unfoldable pub asserts_of : Bool → Bool → Bool → Bool
asserts_of old new sense = not (beq old new) && beq new sense

-- whether an asserted edge of the pair's first pin is accepted
abbrev pub accepted_of : Parallel → Pair → Bool
accepted_of p pair = accepts_of (rules_at p pair) (link_of p pair).held (link_of p pair).strobe.asserted

-- an asserted edge of H1 or H3: an accepted one moves the cells that the pair's elements stand in, under the pair's count
unfoldable pub first_edge : Parallel → Pair → Parallel
first_edge p pair =
    let link = link_of p pair in
    let on = accepted_of p pair in
    with_link
    (with_cells p
    (moved_of (on && (rules_at p pair).a) (rules_at p pair).way link.held p.a.cells (pins_of p H12))
    (moved_of (on && (rules_at p pair).b) (rules_at p pair).way link.held p.b.cells (pins_of p H34)))
    pair
    (first_link link (rules_at p pair))

-- an asserted edge of H2 or H4
unfoldable pub second_edge : Parallel → Pair → Parallel
second_edge p pair = with_link p pair (second_link (link_of p pair) (rules_at p pair))

-- the first or the second pin of a pair at an outside level
unfoldable pub with_first : Parallel → Pair → Bool → Parallel
with_first p pair level = with_link p pair (with_levels (link_of p pair) level (link_of p pair).level2)

unfoldable pub with_second : Parallel → Pair → Bool → Parallel
with_second p pair level = with_link p pair (with_levels (link_of p pair) (link_of p pair).level1 level)

-- a level comes to H1 or H3, which are always inputs: it is remembered, and may be an asserted edge
unfoldable pub first_pin : Parallel → Pair → Bool → Parallel
first_pin p pair level =
    if asserts_of (link_of p pair).level1 level (first_sense pair p.pgcr) then first_edge (with_first p pair level) pair
    else with_first p pair level

-- a level comes to H2 or H4, which are inputs under control 0XX
unfoldable pub second_pin : Parallel → Pair → Bool → Parallel
second_pin p pair level =
    if asserts_of (link_of p pair).level2 level (second_sense pair p.pgcr) then second_edge (with_second p pair level) pair
    else with_second p pair level

-- a level comes to any pin, as far as it concerns ports A and B and the pairs: it is remembered, also where the pin is driven
abbrev pub parallel_pins : Parallel → Bool → List (Entry Parallel)
parallel_pins p level =
    from PA0 lines (λ n. with_ports p (with_outside p.a (with_bit p.a.outside n level)) p.b)
    ∷ from PB0 lines (λ n. with_ports p p.a (with_outside p.b (with_bit p.b.outside n level)))
    ∷ at H1 (first_pin p H12 level)
    ∷ at H2 (second_pin p H12 level)
    ∷ at H3 (first_pin p H34 level)
    ∷ at H4 (second_pin p H34 level)
    ∷ []

unfoldable pub parallel_pinned : Parallel → ℕ → Bool → Parallel
parallel_pinned p pin level = find (parallel_pins p level) p pin

-- the level of H2 or H4, with its sense bit of PGCR
unfoldable pub second_level : Parallel → Pair → Bool
second_level p pair = link_level (link_of p pair) (rules_at p pair) (second_sense pair p.pgcr)
