-- A fresh port C, and reset (01, 'A fresh device'; 02, R-6; 000, 1.2.6).
use Rattle.port_c.specs.Parts.{with_direction}
use Rattle.port_c.specs.declared.PortC.{PortC}

-- PC2's outside level low, where TIN idles, and all others high
unfoldable pub fresh_c : PortC
fresh_c = record { direction = 0; latch = 0; outside = 0xfb }

-- reset clears the direction; the latch and the outside levels are kept
unfoldable pub reset_c : PortC → PortC
reset_c c = with_direction c 0
