-- A pair with the cells of its own port, and others in their place: an edge of its first pin, a data read and a data write change
-- nothing else (01, 'Mode 0').
use Rattle.std.specs.Prelude.{ℕ, Bool, true, false, ◌≡◌, refl, if◌then◌else◌}
use Rattle.std.proofs.Common.{sym}
use Rattle.std.proofs.Math.Bool.{and-true, and-false}
use Rattle.bits.specs.Choice.{both_arms}
use Rattle.port.specs.Parts.{with_cells as port_cells}
use Rattle.port.specs.Moving.{moved_of, drawn_of, put_of}
use Rattle.port.specs.Control.{rules_of, inputs_of, outputs_of}
use Rattle.port.specs.Buffers.{buffer, buffer_edge, buffer_read, buffer_written}
use Rattle.port.specs.declared.Pair.{Pair}
use Rattle.port.specs.declared.Pair.TheVariants.{H12, H34}
use Rattle.port.specs.declared.Buffer.{Buffer}
use Rattle.parallel.specs.Parts.{parallel_with, link_of, with_link, own_port, rules_at}
use Rattle.parallel.specs.Pins.{pins_of, accepted_of, first_edge}
use Rattle.parallel.specs.Data.{DataRead, drawn_by, read_data, sent_by, latched_by, write_data}
use Rattle.parallel.specs.declared.Parallel.{Parallel}

abbrev pub buffer_of : Parallel → Pair → Buffer
buffer_of p pair = buffer (own_port p pair).cells (link_of p pair)

-- A's cells with H1 and H2, B's with H3 and H4
unfoldable pub with_buffer : Parallel → Pair → Buffer → Parallel
with_buffer p H12 b = parallel_with p p.pgcr p.psrr p.pivr (port_cells p.a b.cells) p.b b.link p.h34
with_buffer p H34 b = parallel_with p p.pgcr p.psrr p.pivr p.a (port_cells p.b b.cells) p.h12 b.link

-- an asserted edge of the first pin,
pub edge_moves : (p : Parallel) (pair : Pair) → first_edge p pair ≡ with_buffer p pair (buffer_edge (buffer_of p pair) (rules_at p pair) (pins_of p pair))
unfolding first_edge with_buffer buffer_edge with_link link_of own_port rules_at rules_of moved_of
edge_moves p H12 = rw (and-true (accepted_of p H12), and-false (accepted_of p H12)) refl
edge_moves p H34 = rw (and-true (accepted_of p H34), and-false (accepted_of p H34)) refl

-- the buffer after a level at the first pin: 'an edge happens only at a pin event that changes the level' (01, 'Registers'), and where there
-- is none nothing moves
unfoldable pub edged : Parallel → Pair → Bool → Buffer
edged p pair edge = if edge then buffer_edge (buffer_of p pair) (rules_at p pair) (pins_of p pair) else buffer_of p pair

-- a buffer that is put back as it was changes nothing
put_back : (p : Parallel) (pair : Pair) → with_buffer p pair (buffer_of p pair) ≡ p
unfolding with_buffer own_port link_of
put_back p H12 = refl
put_back p H34 = refl

-- such a level,
pub level_moves : (p : Parallel) (pair : Pair) (edge : Bool) → with_buffer p pair (edged p pair edge) ≡ (if edge then first_edge p pair else p)
unfolding edged
level_moves p pair true = sym (edge_moves p pair)
level_moves p pair false = put_back p pair

-- a data read
pub read_moves : (p : Parallel) (pair : Pair) → (read_data p pair).parallel ≡ with_buffer p pair (buffer_read (buffer_of p pair) (rules_at p pair))
unfolding read_data drawn_by with_buffer buffer_read with_link link_of own_port rules_at rules_of drawn_of
read_moves p H12 = both_arms (λ (x : DataRead) (b : Buffer). x.parallel ≡ with_buffer p H12 b) (inputs_of (rules_at p H12).way) _ _ _ _ refl refl
read_moves p H34 = both_arms (λ (x : DataRead) (b : Buffer). x.parallel ≡ with_buffer p H34 b) (inputs_of (rules_at p H34).way) _ _ _ _ refl refl

-- and a data write
pub write_moves : (p : Parallel) (pair : Pair) (v : ℕ) → write_data p pair v ≡ with_buffer p pair (buffer_written (buffer_of p pair) (rules_at p pair) v)
unfolding write_data sent_by latched_by with_buffer buffer_written with_link link_of own_port rules_at rules_of put_of
write_moves p H12 v = both_arms (λ (x : Parallel) (b : Buffer). x ≡ with_buffer p H12 b) (outputs_of (rules_at p H12).way) _ _ _ _ refl refl
write_moves p H34 v = both_arms (λ (x : Parallel) (b : Buffer). x ≡ with_buffer p H34 b) (outputs_of (rules_at p H34).way) _ _ _ _ refl refl
