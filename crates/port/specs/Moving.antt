-- The two-place buffer's step on one port's cells, under the count of the pair that moves them (01, 'Mode 0'; 000, 2.1.2 and 2.1.3).
use Rattle.std.specs.Prelude.{ℕ, Bool, if◌then◌else◌}
use Rattle.port.specs.Buffering.{stored_at, removed_at, oldest_at, filled_at, taken_at, latched_at, stored_count, removed_count}
use Rattle.port.specs.Parts.{places_of, cells_of}
use Rattle.port.specs.declared.Way.{Way}
use Rattle.port.specs.declared.Way.TheVariants.{Input, Output, Direct}
use Rattle.port.specs.declared.Cells.{Cells}

unfoldable pub stored_of : ℕ → Cells → ℕ → Cells
stored_of held c x = cells_of (stored_at held (places_of c) x)

unfoldable pub removed_of : ℕ → Cells → Cells
removed_of held c = cells_of (removed_at held (places_of c))

unfoldable pub oldest_of : ℕ → Cells → ℕ
oldest_of held c = oldest_at held (places_of c)

unfoldable pub filled_of : ℕ → Cells → ℕ → Cells
filled_of held c x = cells_of (filled_at held (places_of c) x)

unfoldable pub taken_of : ℕ → Cells → Cells
taken_of held c = cells_of (taken_at held (places_of c))

abbrev pub latched_of : Cells → ℕ → Cells
latched_of c x = cells_of (latched_at (places_of c) x)

-- an accepted edge stores all pin levels (input), or empties the final latch and moves the initial up (output)
unfoldable pub shifted_of : Way → ℕ → Cells → ℕ → Cells
shifted_of Input held c pins = stored_of held c pins
shifted_of Output held c pins = taken_of held c
shifted_of Direct held c pins = c

unfoldable pub moved_count : Way → ℕ → ℕ
moved_count Input held = stored_count held
moved_count Output held = removed_count held
moved_count Direct held = held

-- where the pair moves these cells
unfoldable pub moved_of : Bool → Way → ℕ → Cells → ℕ → Cells
moved_of on way held c pins = if on then shifted_of way held c pins else c

unfoldable pub drawn_of : Bool → ℕ → Cells → Cells
drawn_of on held c = if on then removed_of held c else c

unfoldable pub put_of : Bool → Bool → ℕ → Cells → ℕ → Cells
put_of on enabled held c x = if on then (if enabled then filled_of held c x else latched_of c x) else c
