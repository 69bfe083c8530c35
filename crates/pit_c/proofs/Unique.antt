-- Each public function's contract, as the check reads it, leaves one possible result and one possible content of all that is lent
-- to be written (01, 'How strict the contracts are').
use Rattle.std.specs.Prelude.{ℕ, List}
use Rattle.std.specs.Borrow.{MutBor}
use mathlib.Core.Path.{◌≡◌, sym, ◌∙◌}
use Rattle.bits.proofs.Unique.{OneResult}
use Rattle.pit_c.proofs.calls.pit_valid.Reads as pit-valid-reads
use Rattle.pit_c.proofs.calls.pit_port_acknowledge.Reads as pit-port-acknowledge-reads
use Rattle.pit_c.proofs.calls.pit_timer_acknowledge.Reads as pit-timer-acknowledge-reads
use Rattle.pit_c.proofs.calls.pit_levels.Reads as pit-levels-reads
use Rattle.pit_c.proofs.calls.pit_fresh.Reads as pit-fresh-reads
use Rattle.pit_c.proofs.calls.pit_write.Reads as pit-write-reads
use Rattle.pit_c.proofs.calls.pit_read.Reads as pit-read-reads
use Rattle.pit_c.proofs.calls.pit_pin.Reads as pit-pin-reads
use Rattle.pit_c.proofs.calls.pit_reset.Reads as pit-reset-reads
use Rattle.pit_c.proofs.calls.pit_clocks.Reads as pit-clocks-reads
use Rattle.pit_c.proofs.playing.pit_play.Reads as pit-play-reads

pub pit_valid : OneResult pit-valid-reads.Post
pit_valid κs a r r' x x' p q = p ∙ sym q

pub pit_port_acknowledge : OneResult pit-port-acknowledge-reads.Post
pit_port_acknowledge κs a r r' x x' p q = p ∙ sym q

pub pit_timer_acknowledge : OneResult pit-timer-acknowledge-reads.Post
pit_timer_acknowledge κs a r r' x x' p q = p ∙ sym q

pub pit_levels : OneResult pit-levels-reads.Post
pit_levels κs a r r' x x' p q = p ∙ sym q

-- so is what it leaves in the device
abbrev pub OneDevice : {K : Type 0} {A R T : K → Type 0} → ((κs : K) → A κs → R κs → MutBor (List ℕ) × T κs → Type 0) → Type 0
OneDevice {K} {A} {R} {T} Post =
    (κs : K) (a : A κs) (r r' : R κs) (x x' : MutBor (List ℕ) × T κs) → Post κs a r x → Post κs a r' x' → (r ≡ r') × (x.0.now ≡ x'.0.now)

pub pit_fresh : OneDevice pit-fresh-reads.Post
pit_fresh κs a r r' x x' p q = (p.0 ∙ sym q.0, p.1 ∙ sym q.1)

pub pit_write : OneDevice pit-write-reads.Post
pit_write κs a r r' x x' p q = (p.0 ∙ sym q.0, p.1 ∙ sym q.1)

pub pit_read : OneDevice pit-read-reads.Post
pit_read κs a r r' x x' p q = (p.0 ∙ sym q.0, p.1 ∙ sym q.1)

pub pit_pin : OneDevice pit-pin-reads.Post
pit_pin κs a r r' x x' p q = (p.0 ∙ sym q.0, p.1 ∙ sym q.1)

pub pit_reset : OneDevice pit-reset-reads.Post
pit_reset κs a r r' x x' p q = (p.0 ∙ sym q.0, p.1 ∙ sym q.1)

-- the device, the openings and how many there were
pub pit_clocks : (κs : _) (a : _) (r r' : _) (x x' : _) → pit-clocks-reads.Post κs a r x → pit-clocks-reads.Post κs a r' x'
    → (r ≡ r') × (x.0.now ≡ x'.0.now) × (x.1.1.1.0.now ≡ x'.1.1.1.0.now) × (x.1.1.1.1.0.now ≡ x'.1.1.1.1.0.now)
pit_clocks κs a r r' x x' p q = (p.0 ∙ sym q.0, p.1.0 ∙ sym q.1.0, p.1.1.0 ∙ sym q.1.1.0, p.1.1.1 ∙ sym q.1.1.1)

-- the device, the answers, the openings and the totals
pub pit_play : (κs : _) (a : _) (r r' : _) (x x' : _) → pit-play-reads.Post κs a r x → pit-play-reads.Post κs a r' x'
    → (r ≡ r') × (x.0.now ≡ x'.0.now) × (x.1.1.0.now ≡ x'.1.1.0.now) × (x.1.1.1.0.now ≡ x'.1.1.1.0.now)
    × (x.1.1.1.1.0.now ≡ x'.1.1.1.1.0.now)
pit_play κs a r r' x x' p q = (
  p.0 ∙ sym q.0,
  p.1.0 ∙ sym q.1.0,
  p.1.1.0 ∙ sym q.1.1.0,
  p.1.1.1.0 ∙ sym q.1.1.1.0,
  p.1.1.1.1 ∙ sym q.1.1.1.1,
)
