-- What a data read and a data write do to the pair whose elements they move (01, 'Mode 0'; 000, 2.1.2 and 2.1.3).
use Rattle.std.specs.Prelude.{ℕ, Bool, not, ◌&&◌, if◌then◌else◌}
use Rattle.port.specs.Parts.{with_held, with_strobe}
use Rattle.port.specs.Buffering.{removed_count, filled_count}
use Rattle.port.specs.Handshaking.{ready_of, readied_of}
use Rattle.port.specs.declared.Way.{Way}
use Rattle.port.specs.declared.Way.TheVariants.{Input, Output, Direct}
use Rattle.port.specs.declared.Rules.{Rules}
use Rattle.port.specs.declared.Link.{Link}

-- another count: each time readiness begins, the wait begins
unfoldable pub counted_of : Link → Rules → ℕ → Link
counted_of l rules n =
    if not (ready_of rules l.held) && ready_of rules n then with_strobe (with_held l n) (readied_of l.strobe rules)
    else with_held l n

-- a read removes the oldest input element
unfoldable pub read_count : Way → ℕ → ℕ
read_count Input held = removed_count held
read_count Output held = held
read_count Direct held = held

-- a write adds an output element, where the pair is enabled
unfoldable pub written_count : Way → Bool → ℕ → ℕ
written_count Input enabled held = held
written_count Output enabled held = if enabled then filled_count held else held
written_count Direct enabled held = held

abbrev pub read_of : Link → Rules → Link
read_of l rules = counted_of l rules (read_count rules.way l.held)

abbrev pub written_of : Link → Rules → Link
written_of l rules = counted_of l rules (written_count rules.way rules.enabled l.held)
