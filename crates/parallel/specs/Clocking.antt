-- Clocks of both pairs (01, 'Mode 0').
use Rattle.std.specs.Prelude.{ℕ}
use Rattle.port.specs.Clocking.{clocked_link, clocks_of as link_clocks}
use Rattle.port.specs.declared.Pair.TheVariants.{H12, H34}
use Rattle.parallel.specs.Parts.{with_links, rules_at}
use Rattle.parallel.specs.declared.Parallel.{Parallel}

-- one clock
unfoldable pub clocked_parallel : Parallel → Parallel
clocked_parallel p = with_links p (clocked_link p.h12 (rules_at p H12)) (clocked_link p.h34 (rules_at p H34))

-- n clocks
unfoldable pub clocks_of : ℕ → Parallel → Parallel
clocks_of n p = with_links p (link_clocks n p.h12 (rules_at p H12)) (link_clocks n p.h34 (rules_at p H34))
