-- Each public function's contract, as the check reads it, leaves one possible result (01, 'How strict the contracts are').
use mathlib.Core.Path.{◌≡◌, sym, ◌∙◌}
use contract.Lifetimes.{Lfts}
use borrow.Fn.World.{ArgsD, ResD}
use borrow.Fn.Kinds.{ended_of}
use denote.Triple.Clauses.{AtExit}
use Rattle.gate.specs.contracts.Gate.clocks.{signature}
use Rattle.gate.proofs.Gate.clocks.Kinds as kinds
use Rattle.bits.proofs.Unique.{OneResult}
use Rattle.gate.proofs.Gate.clock.Reads as clock-reads
use Rattle.gate.proofs.Gate.clocks.Reads as clocks-reads
use Rattle.gate.proofs.Gate.fresh.Reads as fresh-reads
use Rattle.gate.proofs.Gate.reset.Reads as reset-reads
use Rattle.gate.proofs.Gate.line.Reads as line-reads
use Rattle.gate.proofs.Gate.pin.Reads as pin-reads
use Rattle.gate.proofs.Gate.write_tcr.Reads as write-tcr-reads
use Rattle.gate.proofs.Gate.write_preload.Reads as write-preload-reads
use Rattle.gate.proofs.Gate.write_tsr.Reads as write-tsr-reads
use Rattle.gate.proofs.Gate.write.Reads as write-reads
use Rattle.gate.proofs.Gate.sound.Reads as sound-reads
use Rattle.gate.proofs.Gate.quiet.Reads as quiet-reads
use Rattle.gate.proofs.Gate.passed.Reads as passed-reads
use Rattle.gate.proofs.Gate.regular.Reads as regular-reads
use Rattle.gate.proofs.Gate.opened.Reads as opened-reads
use Rattle.gate.proofs.Gate.gone_on.Reads as gone-on-reads
use Rattle.gate.proofs.Gate.rises.Reads as rises-reads
use Rattle.gate.specs.contracts.Gate.risen.{signature as risen-signature}
use Rattle.gate.proofs.Gate.risen.Kinds as risen-kinds
use Rattle.gate.proofs.Gate.risen.Reads as risen-reads
use Rattle.gate.specs.contracts.Gate.list.{signature as list-signature}
use Rattle.gate.proofs.Gate.list.Kinds as list-kinds
use Rattle.gate.proofs.Gate.list.Reads as list-reads

pub clock : OneResult clock-reads.Post
clock κs a r r' s s' p q = p ∙ sym q

pub fresh : OneResult fresh-reads.Post
fresh κs a r r' s s' p q = p ∙ sym q

pub reset : OneResult reset-reads.Post
reset κs a r r' s s' p q = p ∙ sym q

pub line : OneResult line-reads.Post
line κs a r r' s s' p q = p ∙ sym q

pub pin : OneResult pin-reads.Post
pin κs a r r' s s' p q = p ∙ sym q

pub write_tcr : OneResult write-tcr-reads.Post
write_tcr κs a r r' s s' p q = p ∙ sym q

pub write_preload : OneResult write-preload-reads.Post
write_preload κs a r r' s s' p q = p ∙ sym q

pub write_tsr : OneResult write-tsr-reads.Post
write_tsr κs a r r' s s' p q = p ∙ sym q

pub write : OneResult write-reads.Post
write κs a r r' s s' p q = p ∙ sym q

pub sound : OneResult sound-reads.Post
sound κs a r r' s s' p q = p ∙ sym q

pub quiet : OneResult quiet-reads.Post
quiet κs a r r' s s' p q = p ∙ sym q

pub passed : OneResult passed-reads.Post
passed κs a r r' s s' p q = p ∙ sym q

pub regular : OneResult regular-reads.Post
regular κs a r r' s s' p q = p ∙ sym q

pub opened : OneResult opened-reads.Post
opened κs a r r' s s' p q = p ∙ sym q

pub gone_on : OneResult gone-on-reads.Post
gone_on κs a r r' s s' p q = p ∙ sym q

pub rises : OneResult rises-reads.Post
rises κs a r r' s s' p q = p ∙ sym q

-- and of `clocks`, `risen` and `list` one content of the lent row too
pub clocks : (κs : Lfts 1) (a : ArgsD signature κs) (r r' : ResD signature κs) (s s' : AtExit (ended_of 1 kinds.ps kinds.r) κs)
    → clocks-reads.Post κs a r s → clocks-reads.Post κs a r' s' → (r ≡ r') × (s.1.1.1.0.now ≡ s'.1.1.1.0.now)
clocks κs a r r' s s' p q = (p.0 ∙ sym q.0, p.1 ∙ sym q.1)

pub risen : (κs : Lfts 1) (a : ArgsD risen-signature κs) (r r' : ResD risen-signature κs) (s s' : AtExit (ended_of 1 risen-kinds.ps risen-kinds.r) κs)
    → risen-reads.Post κs a r s → risen-reads.Post κs a r' s' → (r ≡ r') × (s.1.1.0.now ≡ s'.1.1.0.now)
risen κs a r r' s s' p q = (p.0 ∙ sym q.0, p.1 ∙ sym q.1)

pub list : (κs : Lfts 1) (a : ArgsD list-signature κs) (r r' : ResD list-signature κs) (s s' : AtExit (ended_of 1 list-kinds.ps list-kinds.r) κs)
    → list-reads.Post κs a r s → list-reads.Post κs a r' s' → s.1.1.1.0.now ≡ s'.1.1.1.0.now
list κs a r r' s s' p q = p ∙ sym q
