-- Fresh ports and pairs, and reset (01, 'A fresh device'; 000, 1.2.6).
use Rattle.interrupt.specs.Answering.{reset_vector}
use Rattle.port.specs.Fresh.{fresh_port, reset_port, fresh_link, reset_link}
use Rattle.parallel.specs.Parts.{with_registers, with_ports, with_links}
use Rattle.parallel.specs.declared.Parallel.{Parallel}

-- every register zero, except PIVR 0F
unfoldable pub fresh_parallel : Parallel
fresh_parallel = record { pgcr = 0; psrr = 0; pivr = reset_vector; a = fresh_port; b = fresh_port; h12 = fresh_link; h34 = fresh_link }

-- the same to control, direction and vector registers, status and handshakes; data latches, the last byte read and outside levels
-- are kept
unfoldable pub reset_of : Parallel → Parallel
reset_of p =
    with_links (with_ports (with_registers p 0 0 reset_vector) (reset_port p.a) (reset_port p.b)) (reset_link p.h12) (reset_link p.h34)
