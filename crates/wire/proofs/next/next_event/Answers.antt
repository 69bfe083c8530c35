-- `next_event` meets its contract: the bits tell the event, if one stands there.
use Rattle.std.proofs.Common.{◌≡◌, ◌≢◌, ℕ, ◌+◌, ◌≤◌, List, length, sym, subst, refl, ◌∙◌, arith}
use Rattle.event.specs.declared.Event.{Event}
use Rattle.wire.specs.Field.{bits_in}
use Rattle.wire.specs.Next.{most_bytes, next_at, size_of, too_long}
use Rattle.wire.specs.Word.{bits_of, event_in, kind_in, bits_tell, told_there, unless_no_pin}
use Rattle.wire.proofs.next.next_event.Goals as goal

-- what the code found: the bits, their event and its size
module _ (s : List ℕ) (at : ℕ) {w size : ℕ} (bits : w ≡ bits_of s at) (some : kind_in w ≢ 7) (sized : size ≡ size_of (kind_in w)) where
  there : at + size ≤ bits_in s
  there = let h = subst (λ (w : ℕ). kind_in w ≢ 7 → at + size_of (kind_in w) ≤ bits_in s) (sym bits) (told_there s at) some in omega (arith, h, sized)

  read : {event : Event} → event ≡ event_in w → length s ≤ most_bytes → next_at s at ≡ unless_no_pin at event (at + size)
  read {event} is short =
      subst (λ (w : ℕ). kind_in w ≢ 7 → next_at s at ≡ unless_no_pin at (event_in w) (at + size_of (kind_in w))) (sym bits) (bits_tell s at short) some
      ∙ (λ i. unless_no_pin at (sym is i) (at + sym sized i))

pub returns-then-list-gt-MOST_BYTES : goal.returns-then-list-gt-MOST_BYTES
returns-then-list-gt-MOST_BYTES c = rw c.at.ensures (sym (too_long c.args.list.now c.args.at c.if-list-gt-MOST_BYTES.true))

pub returns-then-no_pin : goal.returns-then-no_pin
returns-then-no_pin c =
    let n = read c.args.list.now c.args.at c.bits_at-word.ensures c.if-kind-eq-END.false refl c.event_of-event.ensures c.if-list-gt-MOST_BYTES.false in
    simp (c.at-then-no_pin.ensures, n, sym c.no_pin.ensures ∙ c.if-no_pin.true)

pub returns : goal.returns
returns c =
    let n = read c.args.list.now c.args.at c.bits_at-word.ensures c.if-kind-eq-END.false c.size_of.ensures.0 c.event_of-event.ensures c.if-list-gt-MOST_BYTES.false in
    simp (n, sym c.no_pin.ensures ∙ c.if-no_pin.false)

pub overflow_add-result : goal.overflow_add-result
overflow_add-result c =
    let h = there c.args.list.now c.args.at c.bits_at-word.ensures c.if-kind-eq-END.false c.size_of.ensures.0 in
    omega (arith, h, c.if-list-gt-MOST_BYTES.false)
