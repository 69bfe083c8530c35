-- Events are played one after the other: a prefix plays as the whole does that far.
use Rattle.std.specs.Prelude.{ℕ, List, [], ◌∷◌, ◌++◌, ◌≡◌, refl, length, take}
use Rattle.std.proofs.Common.{append_assoc, sym, ap, ◌∙◌}
use Rattle.std.proofs.Math.Seq.{take-append_seam}
use Rattle.event.specs.declared.Event.{Event}
use Rattle.device.specs.Events.{Made, effect, joined, made}
use Rattle.device.specs.declared.Device.{Device}

joined_assoc : (f g h : Made) → joined f (joined g h) ≡ joined (joined f g) h
joined_assoc f g h =
    λ i. record {
      device = h.device;
      answers = sym (append_assoc f.answers g.answers h.answers) i;
      openings = sym (append_assoc f.openings g.openings h.openings) i;
      clocks = h.clocks;
    }

-- xs and then ys: what xs make, and then what ys make of the device and the clocks that xs leave
pub prefix : (xs ys : List Event) (d : Device) (k : ℕ) → made d k (xs ++ ys) ≡ joined (made d k xs) (made (made d k xs).device (made d k xs).clocks ys)
unfolding made
prefix [] ys d k = refl
prefix (e ∷ xs) ys d k =
    let f = effect d k e in
    let g = made f.device f.clocks xs in
    ap (joined f) (prefix xs ys f.device f.clocks) ∙ joined_assoc f g (made g.device g.clocks ys)

-- so the answers of xs come first
pub answers_first : (xs ys : List Event) (d : Device) (k : ℕ) → take (length (made d k xs).answers) (made d k (xs ++ ys)).answers ≡ (made d k xs).answers
answers_first xs ys d k = rw (prefix xs ys d k) (take-append_seam (made d k xs).answers _)

-- and so do its openings
pub openings_first : (xs ys : List Event) (d : Device) (k : ℕ) → take (length (made d k xs).openings) (made d k (xs ++ ys)).openings ≡ (made d k xs).openings
openings_first xs ys d k = rw (prefix xs ys d k) (take-append_seam (made d k xs).openings _)
