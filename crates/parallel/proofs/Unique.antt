-- Each public function's contract, as the check reads it, leaves one possible result (01, 'How strict the contracts are').
use mathlib.Core.Path.{sym, ◌∙◌}
use Rattle.bits.proofs.Unique.{OneResult}
use Rattle.parallel.proofs.Parallel.clock.Reads as clock-reads
use Rattle.parallel.proofs.Parallel.clocks.Reads as clocks-reads
use Rattle.parallel.proofs.Parallel.byte.Reads as byte-reads
use Rattle.parallel.proofs.Parallel.read.Reads as read-reads
use Rattle.parallel.proofs.Parallel.write.Reads as write-reads
use Rattle.parallel.proofs.Parallel.fresh.Reads as fresh-reads
use Rattle.parallel.proofs.Parallel.reset.Reads as reset-reads
use Rattle.parallel.proofs.Parallel.psr.Reads as psr-reads
use Rattle.parallel.proofs.Parallel.requests.Reads as requests-reads
use Rattle.parallel.proofs.Parallel.acknowledge.Reads as acknowledge-reads
use Rattle.parallel.proofs.Parallel.buffer.Reads as buffer-reads
use Rattle.parallel.proofs.Parallel.with_buffer.Reads as with-buffer-reads
use Rattle.parallel.proofs.Parallel.with_links.Reads as with-links-reads
use Rattle.parallel.proofs.Parallel.with_first.Reads as with-first-reads
use Rattle.parallel.proofs.Parallel.rules.Reads as rules-reads
use Rattle.parallel.proofs.pins.asserts.Reads as asserts-reads
use Rattle.parallel.proofs.Parallel.pins.Reads as pins-reads
use Rattle.parallel.proofs.Parallel.first_pin.Reads as first-pin-reads
use Rattle.parallel.proofs.Parallel.second_pin.Reads as second-pin-reads
use Rattle.parallel.proofs.Parallel.pin.Reads as pin-reads
use Rattle.parallel.proofs.Parallel.second_level.Reads as second-level-reads
use Rattle.parallel.proofs.Parallel.write_pgcr.Reads as write-pgcr-reads
use Rattle.parallel.proofs.Parallel.write_psrr.Reads as write-psrr-reads
use Rattle.parallel.proofs.Parallel.write_pivr.Reads as write-pivr-reads
use Rattle.parallel.proofs.Parallel.write_control.Reads as write-control-reads
use Rattle.parallel.proofs.Parallel.write_psr.Reads as write-psr-reads
use Rattle.parallel.proofs.Parallel.sound.Reads as sound-reads

pub clock : OneResult clock-reads.Post
clock κs a r r' s s' p q = p ∙ sym q

pub clocks : OneResult clocks-reads.Post
clocks κs a r r' s s' p q = p ∙ sym q

pub byte : OneResult byte-reads.Post
byte κs a r r' s s' p q = p ∙ sym q

pub read : OneResult read-reads.Post
read κs a r r' s s' p q = p ∙ sym q

pub write : OneResult write-reads.Post
write κs a r r' s s' p q = p ∙ sym q

pub fresh : OneResult fresh-reads.Post
fresh κs a r r' s s' p q = p ∙ sym q

pub reset : OneResult reset-reads.Post
reset κs a r r' s s' p q = p ∙ sym q

pub psr : OneResult psr-reads.Post
psr κs a r r' s s' p q = p ∙ sym q

pub requests : OneResult requests-reads.Post
requests κs a r r' s s' p q = p ∙ sym q

pub acknowledge : OneResult acknowledge-reads.Post
acknowledge κs a r r' s s' p q = p ∙ sym q

pub buffer : OneResult buffer-reads.Post
buffer κs a r r' s s' p q = p ∙ sym q

pub with_buffer : OneResult with-buffer-reads.Post
with_buffer κs a r r' s s' p q = p ∙ sym q

pub with_links : OneResult with-links-reads.Post
with_links κs a r r' s s' p q = p ∙ sym q

pub with_first : OneResult with-first-reads.Post
with_first κs a r r' s s' p q = p ∙ sym q

pub rules : OneResult rules-reads.Post
rules κs a r r' s s' p q = p ∙ sym q

pub asserts : OneResult asserts-reads.Post
asserts κs a r r' s s' p q = p ∙ sym q

pub pins : OneResult pins-reads.Post
pins κs a r r' s s' p q = p ∙ sym q

pub first_pin : OneResult first-pin-reads.Post
first_pin κs a r r' s s' p q = p ∙ sym q

pub second_pin : OneResult second-pin-reads.Post
second_pin κs a r r' s s' p q = p ∙ sym q

pub pin : OneResult pin-reads.Post
pin κs a r r' s s' p q = p ∙ sym q

pub second_level : OneResult second-level-reads.Post
second_level κs a r r' s s' p q = p ∙ sym q

pub write_pgcr : OneResult write-pgcr-reads.Post
write_pgcr κs a r r' s s' p q = p ∙ sym q

pub write_psrr : OneResult write-psrr-reads.Post
write_psrr κs a r r' s s' p q = p ∙ sym q

pub write_pivr : OneResult write-pivr-reads.Post
write_pivr κs a r r' s s' p q = p ∙ sym q

pub write_control : OneResult write-control-reads.Post
write_control κs a r r' s s' p q = p ∙ sym q

pub write_psr : OneResult write-psr-reads.Post
write_psr κs a r r' s s' p q = p ∙ sym q

pub sound : OneResult sound-reads.Post
sound κs a r r' s s' p q = p ∙ sym q
