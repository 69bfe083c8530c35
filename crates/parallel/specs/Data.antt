-- Reads and writes of data A and B (01, 'Mode 0'; 000, 2.1 and 4.6).
use Rattle.std.specs.Prelude.{ℕ, if◌then◌else◌}
use Rattle.bits.specs.Field.{chosen_of}
use Rattle.port.specs.Control.{inputs_of, outputs_of}
use Rattle.port.specs.Moving.{oldest_of, drawn_of, put_of, latched_of}
use Rattle.port.specs.Data.{read_of, written_of}
use Rattle.port.specs.declared.Pair.{Pair}
use Rattle.port.specs.declared.Pair.TheVariants.{H12, H34}
use Rattle.port.specs.declared.Rules.{Rules}
use Rattle.parallel.specs.Parts.{link_of, with_link, own_port, with_cells, rules_at}
use Rattle.parallel.specs.Pins.{pins_of}
use Rattle.parallel.specs.declared.Parallel.{Parallel}

-- a read removes the pair's oldest element, from the cells that it stands in
unfoldable pub drawn_by : Parallel → Pair → Rules → Parallel
drawn_by p pair rules =
    let link = link_of p pair in
    with_link (with_cells p (drawn_of rules.a link.held p.a.cells) (drawn_of rules.b link.held p.b.cells)) pair (read_of link rules)

-- ports and pairs after a data read, and the byte read
pub record DataRead : Type 0 where
  pub parallel : Parallel
  pub byte : ℕ

abbrev pub data_read : Parallel → ℕ → DataRead
data_read p byte = record { parallel = p; byte = byte }

-- a data read gives, per bit, in 00 the oldest byte, which is removed, elsewhere the pin; where direction is 1 the final latch
unfoldable pub read_data : Parallel → Pair → DataRead
read_data p pair =
    let port = own_port p pair in
    if inputs_of (rules_at p pair).way
    then data_read (drawn_by p pair (rules_at p pair)) (chosen_of (oldest_of (link_of p pair).held port.cells) port.cells.latch port.direction)
    else data_read p (chosen_of (pins_of p pair) port.cells.latch port.direction)

-- in 01 a write adds an element to the pair's, in the cells that they stand in
unfoldable pub sent_by : Parallel → Pair → Rules → ℕ → Parallel
sent_by p pair rules v =
    let link = link_of p pair in
    with_link
    (with_cells p (put_of rules.a rules.enabled link.held p.a.cells v) (put_of rules.b rules.enabled link.held p.b.cells v))
    pair
    (written_of link rules)

-- elsewhere it goes straight to the final latch of the pair's own port
unfoldable pub latched_by : Parallel → Pair → ℕ → Parallel
latched_by p H12 v = with_cells p (latched_of p.a.cells v) p.b.cells
latched_by p H34 v = with_cells p p.a.cells (latched_of p.b.cells v)

-- a data write
unfoldable pub write_data : Parallel → Pair → ℕ → Parallel
write_data p pair v =
    if outputs_of (rules_at p pair).way then sent_by p pair (rules_at p pair) v else latched_by p pair v
