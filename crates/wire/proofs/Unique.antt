-- Each public function's contract, as the check reads it, leaves one possible result, and one possible content of what is lent to be written
-- (01, 'How strict the contracts are').
use Rattle.std.proofs.Common.{◌≡◌, sym, ◌∙◌}
use Rattle.bits.proofs.Unique.{OneResult}
use Rattle.wire.specs.Events.{one_event, one_reading}
use Rattle.wire.specs.Told.{told_by_one, refusal_told_by_one}
use Rattle.wire.proofs.events.Events.of.Reads as of-reads
use Rattle.wire.proofs.events.Events.end.Reads as end-reads
use Rattle.wire.proofs.events.EventsIterator.next.Reads as next-reads
use Rattle.wire.proofs.refusal.U8FromRefusal.from.Reads as from-reads
use Rattle.wire.proofs.next.next_event.Reads as next-event-reads
use Rattle.wire.proofs.next.size_of.Reads as size-of-reads
use Rattle.wire.proofs.refusal.Refusal.at.Reads as at-reads
use Rattle.wire.proofs.word.event_of.Reads as event-of-reads
use Rattle.wire.proofs.word.word_at.Reads as word-at-reads

pub one_next_event : OneResult next-event-reads.Post
one_next_event κs a r r' s s' p q = told_by_one r r' (p ∙ sym q)

pub one_size_of : OneResult size-of-reads.Post
one_size_of κs a r r' s s' p q = p.0 ∙ sym q.0

pub one_event_of : OneResult event-of-reads.Post
one_event_of κs a r r' s s' p q = p ∙ sym q

pub one_word_at : OneResult word-at-reads.Post
one_word_at κs a r r' s s' p q = p.0 ∙ sym q.0

pub one_at : OneResult at-reads.Post
one_at κs a r r' s s' p q = p ∙ sym q

pub one_of : OneResult of-reads.Post
one_of κs a r r' s s' p q = p ∙ sym q

pub one_end : OneResult end-reads.Post
one_end κs a r r' s s' p q = refusal_told_by_one r r' (p ∙ sym q)

-- so is what it leaves of the reading that is lent
pub one_next : (κs : _) (a : _) (r r' : _) (s s' : _) → next-reads.Post κs a r s → next-reads.Post κs a r' s' → (r ≡ r') × (s.0.now ≡ s'.0.now)
one_next κs a r r' s s' p q = (one_event _ r r' _ _ p.0 q.0, one_reading _ r r' _ _ p.0 q.0)

pub one_from : OneResult from-reads.Post
one_from κs a r r' s s' p q = p ∙ sym q
