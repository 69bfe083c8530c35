-- A port's cells with the pair that moves them (01, 'Mode 0').
use Rattle.std.specs.Prelude.{ℕ, true, if◌then◌else◌}
use Rattle.port.specs.Control.{inputs_of, outputs_of}
use Rattle.port.specs.Handshaking.{accepts_of}
use Rattle.port.specs.Moving.{moved_of, drawn_of, put_of, latched_of}
use Rattle.port.specs.Edges.{first_edge}
use Rattle.port.specs.Data.{read_of, written_of}
use Rattle.port.specs.declared.Rules.{Rules}
use Rattle.port.specs.declared.Cells.{Cells}
use Rattle.port.specs.declared.Link.{Link}
use Rattle.port.specs.declared.Buffer.{Buffer}

abbrev pub buffer : Cells → Link → Buffer
buffer c l = record { cells = c; link = l }

-- an asserted edge of the pair's first pin, with what the port's pins show
unfoldable pub buffer_edge : Buffer → Rules → ℕ → Buffer
buffer_edge b rules pins =
    buffer (moved_of (accepts_of rules b.link.held b.link.strobe.asserted) rules.way b.link.held b.cells pins) (first_edge b.link rules)

-- a data read removes the oldest input element
unfoldable pub buffer_read : Buffer → Rules → Buffer
buffer_read b rules =
    if inputs_of rules.way then buffer (drawn_of true b.link.held b.cells) (read_of b.link rules) else b

-- a data write adds an output element, and elsewhere goes straight to the final latch
unfoldable pub buffer_written : Buffer → Rules → ℕ → Buffer
buffer_written b rules v =
    if outputs_of rules.way then buffer (put_of true rules.enabled b.link.held b.cells v) (written_of b.link rules)
    else buffer (latched_of b.cells v) b.link
