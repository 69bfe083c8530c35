-- The functions of include/pit.h: what each answers, and what the bytes that it is lent then hold.
use Rattle.std.specs.Prelude.{ℕ, Bool, false, not, List, map, eqb, length, if◌then◌else◌, Option, Some, None}
use Rattle.std.proofs.lemmas.List.Edits.{sets}
use Rattle.bits.specs.Field.{packed_of}
use Rattle.clocks.specs.Clocks.{clock_number}
use Rattle.device.specs.Fresh.{fresh_device, reset_of}
use Rattle.device.specs.Interrupts.{port_acknowledge, timer_acknowledge}
use Rattle.port.specs.declared.Pair.TheVariants.{H12, H34}
use Rattle.parallel.specs.Pins.{pins_of, second_level}
use Rattle.device.specs.Pins.{pins_c, pin_of}
use Rattle.device.specs.Registers.{read_of, write_of}
use Rattle.device.specs.Clocking.{after, openings}
use Rattle.device.specs.Validity.{valid_of}
use Rattle.device.specs.declared.Device.{Device}
use Rattle.pit_c.specs.Layout.{size, flag_byte, number_of, bytes_of, device_of}

-- what a call answers where a size is not the one it asks for; nothing is then written
abbrev pub wrong_size : ℕ
wrong_size = 0xffffffff

-- what an acknowledge answers where the part does not respond
abbrev pub silent : ℕ
silent = 0x100

-- as many bytes as a device has
abbrev pub sized : List ℕ → Bool
sized l = eqb (length l) size

-- what is answered about the device that bytes stand for
abbrev pub answered : List ℕ → (Device → ℕ) → ℕ
answered l f = if sized l then f (device_of l) else wrong_size

-- the bytes of the device that something happened to
abbrev pub changed : List ℕ → (Device → Device) → List ℕ
changed l f = if sized l then bytes_of (f (device_of l)) else l

-- a call that has nothing to answer
abbrev pub done : List ℕ → ℕ
done l = answered l (λ d. 0)

abbrev pub fresh_call : List ℕ → List ℕ
fresh_call l = changed l (λ d. fresh_device)

abbrev pub valid_answer : List ℕ → ℕ
valid_answer l = answered l (λ d. flag_byte (valid_of d))

abbrev pub write_call : List ℕ → ℕ → ℕ → List ℕ
write_call l r v = changed l (λ d. write_of d r v)

abbrev pub read_call : List ℕ → ℕ → List ℕ
read_call l r = changed l (λ d. (read_of d r).device)

abbrev pub read_answer : List ℕ → ℕ → ℕ
read_answer l r = answered l (λ d. (read_of d r).byte)

-- any level but 0 is high
abbrev pub high : ℕ → Bool
high level = not (eqb level 0)

abbrev pub pin_call : List ℕ → ℕ → ℕ → List ℕ
pin_call l pin level = changed l (λ d. pin_of d pin (high level))

-- n clocks after clock k
abbrev pub clocks_call : List ℕ → ℕ → List ℕ
clocks_call l n = changed l (after n)

-- the numbers of the clocks that opened, as far as the row reaches
abbrev pub clocks_row : List ℕ → ℕ → ℕ → List ℕ → List ℕ
clocks_row l n k row = if sized l then sets row 0 (map clock_number (openings n k (device_of l))) else row

-- how many there were
abbrev pub clocks_opened : List ℕ → ℕ → ℕ → ℕ → ℕ
clocks_opened l n k opened = if sized l then length (openings n k (device_of l)) else opened

abbrev pub reset_call : List ℕ → List ℕ
reset_call l = changed l reset_of

-- a vector, or the number for none
abbrev pub answer_number : Option ℕ → ℕ
answer_number (Some v) = v
answer_number None = silent

abbrev pub port_acknowledge_answer : List ℕ → ℕ
port_acknowledge_answer l = answered l (λ d. answer_number (port_acknowledge d))

abbrev pub timer_acknowledge_answer : List ℕ → ℕ
timer_acknowledge_answer l = answered l (λ d. answer_number (timer_acknowledge d))

-- PA, PB, PC and H1 to H4, from bit 0 up
unfoldable pub levels_of : Device → ℕ
levels_of d =
    let p = d.parallel in
    number_of (pins_of p H12) (pins_of p H34) (pins_c d)
    (packed_of false false false false (second_level p H34) p.h34.level1 (second_level p H12) p.h12.level1)

abbrev pub levels_answer : List ℕ → ℕ
levels_answer l = answered l levels_of
