-- What stands at a bit of a list: an event, the end, or a refusal with its number and place.
-- 01, 'The event list', and rows 1 to 5 of its table of refusals.
use Rattle.std.specs.Prelude.{◌≡◌, ℕ, ◌+◌, ◌-◌, ◌*◌, ◌/◌, ◌<◌, ◌≤◌, Bool, List, [], ◌∷◌, length, ◌==◌, nat_lt, slice_index_or, if◌then◌else◌}
use borrow.Author.Tests.{lt-ltb, le-ltb}
use Rattle.wire.specs.Field.{bits_in, field_at}
use Rattle.event.specs.Map.{H4}
use Rattle.event.specs.declared.Event.{Event}
use Rattle.event.specs.declared.Event.TheVariants.{Write, Read, PortAcknowledge, TimerAcknowledge, Pin, Clocks, Reset}

pub data Next : Type 0 where
  -- an event, and the first bit after it
  Play : Event → ℕ → Next
  -- the end, with its fill and nothing after
  End : Next
  -- a refusal's number and its place
  Refused : ℕ → ℕ → Next

-- 'A list has at most 16,384 bytes'
abbrev pub most_bytes : ℕ
most_bytes = 16384

abbrev pub most_bits : ℕ
most_bits = most_bytes * 8

-- 'Pins 0-7 are PA, 8-15 PB, 16-23 PC, 24-27 H1-H4'
abbrev pub last_pin : ℕ
last_pin = H4

-- 'Each event is a 3-bit kind and its fields'
abbrev pub kind_bits : ℕ
kind_bits = 3

-- 'register 5, value 8'
abbrev pub register_bits : ℕ
register_bits = 5

abbrev pub value_bits : ℕ
value_bits = 8

-- 'pin 5, level 1'
abbrev pub pin_bits : ℕ
pin_bits = 5

abbrev pub level_bits : ℕ
level_bits = 1

-- clocks, '16: one less than their number, so 1 to 65,536'
abbrev pub clocks_bits : ℕ
clocks_bits = 16

abbrev pub most_clocks : ℕ
most_clocks = 65536

-- the kind and the fields of the event whose first bit is at
abbrev pub kind_at : List ℕ → ℕ → ℕ
kind_at s at = field_at s at kind_bits

abbrev pub register_at : List ℕ → ℕ → ℕ
register_at s at = field_at s (at + kind_bits) register_bits

abbrev pub value_at : List ℕ → ℕ → ℕ
value_at s at = field_at s (at + kind_bits + register_bits) value_bits

abbrev pub pin_at : List ℕ → ℕ → ℕ
pin_at s at = field_at s (at + kind_bits) pin_bits

abbrev pub level_at : List ℕ → ℕ → Bool
level_at s at = field_at s (at + kind_bits + pin_bits) level_bits == 1

abbrev pub clocks_at : List ℕ → ℕ → ℕ
clocks_at s at = field_at s (at + kind_bits) clocks_bits + 1

-- how many bits an event of a kind needs, those of the kind with them, in the order of the kinds
unfoldable pub size_of : ℕ → ℕ
size_of kind =
    slice_index_or
    ((kind_bits + register_bits + value_bits)
    ∷ (kind_bits + register_bits)
    ∷ kind_bits
    ∷ kind_bits
    ∷ (kind_bits + pin_bits + level_bits)
    ∷ (kind_bits + clocks_bits)
    ∷ kind_bits
    ∷ kind_bits
    ∷ [])
    kind kind_bits

-- how many bytes hold the bits before end, the last one filled
abbrev pub bytes_to : ℕ → ℕ
bytes_to end = (end + 7) / 8

-- 'After end, zero bits fill the last byte': the fill after the end mark, as a number
abbrev pub fill_at : List ℕ → ℕ → ℕ
fill_at s end = field_at s end (bytes_to end * 8 - end)

-- what follows the end mark, end being the first bit after it
-- 4: 'a fill bit is 1', 'first bit after end'; 5: 'a byte follows the last filled one', 'that byte's first bit'
unfoldable pub close_at : List ℕ → ℕ → Next
close_at s end =
    if nat_lt 0 (fill_at s end) then Refused 4 end
    else if nat_lt (bytes_to end) (length s) then Refused 5 (bytes_to end * 8)
    else End

-- 3: 'pin 28 to 31', 'that event's first bit'
unfoldable pub pin_or_refusal : List ℕ → ℕ → ℕ → Next
pin_or_refusal s at after =
    if nat_lt last_pin (pin_at s at) then Refused 3 at
    else Play (Pin (pin_at s at) (level_at s at)) after

-- 01's table of kinds: what stands at bit at, all of it there; after is the first bit after it
unfoldable pub event_at : List ℕ → ℕ → ℕ → ℕ → Next
event_at s at after kind =
    slice_index_or
    (Play (Write (register_at s at) (value_at s at)) after
    ∷ Play (Read (register_at s at)) after
    ∷ Play PortAcknowledge after
    ∷ Play TimerAcknowledge after
    ∷ pin_or_refusal s at after
    ∷ Play (Clocks (clocks_at s at)) after
    ∷ Play Reset after
    ∷ close_at s after
    ∷ [])
    kind End

-- what stands at bit at. 1: 'more than 16,384 bytes', place 0
-- 2: 'fewer bits remain than the next event needs', 'that event's first bit'. Each needs its kind at least: fewer than three bits are too few
unfoldable pub next_at : List ℕ → ℕ → Next
next_at s at =
    if nat_lt most_bytes (length s) then Refused 1 0
    else if nat_lt (bits_in s) (at + size_of (kind_at s at)) then Refused 2 at
    else event_at s at (at + size_of (kind_at s at)) (kind_at s at)

-- the kind of an event, and how many bits it takes
abbrev pub kind_of : Event → ℕ
kind_of (Write r v) = 0
kind_of (Read r) = 1
kind_of PortAcknowledge = 2
kind_of TimerAcknowledge = 3
kind_of (Pin n l) = 4
kind_of (Clocks n) = 5
kind_of Reset = 6

abbrev pub bits_of : Event → ℕ
bits_of e = size_of (kind_of e)

-- what stands at a bit, case by case
module _ (s : List ℕ) (at : ℕ) where
  pub too_long : most_bytes < length s → next_at s at ≡ Refused 1 0
  unfolding next_at
  too_long long = simp (lt-ltb most_bytes (length s) long)

  pub cut_short : length s ≤ most_bytes → bits_in s < at + size_of (kind_at s at) → next_at s at ≡ Refused 2 at
  unfolding next_at
  cut_short short cut = simp (le-ltb most_bytes (length s) short, lt-ltb (bits_in s) (at + size_of (kind_at s at)) cut)

  pub all_there : length s ≤ most_bytes → at + size_of (kind_at s at) ≤ bits_in s → next_at s at ≡ event_at s at (at + size_of (kind_at s at)) (kind_at s at)
  unfolding next_at
  all_there short there = simp (le-ltb most_bytes (length s) short, le-ltb (bits_in s) (at + size_of (kind_at s at)) there)
