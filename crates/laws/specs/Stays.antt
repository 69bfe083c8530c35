-- A valid device stays valid, whatever happens to it (01, refusal 8).
use Rattle.std.specs.Prelude.{◌≡◌, Bool, true, List, [], ◌∷◌, ℕ, zero, suc, ◌<◌, ◌-◌}
use Rattle.bits.specs.Choice.{and_left, and_right, both}
use Rattle.bits.specs.Tables.{each}
use Rattle.event.specs.Map.{CPRH}
use Rattle.event.specs.declared.Event.{Event}
use Rattle.event.specs.declared.Event.TheVariants.{Write, Read, PortAcknowledge, TimerAcknowledge, Pin, Clocks, Reset}
use Rattle.port.specs.declared.Pair.TheVariants.{H12, H34}
use Rattle.port_c.specs.Fresh.{fresh_c, reset_c}
use Rattle.port_c.specs.Pins.{tin_level}
use Rattle.gate.specs.Clocking.{clocked_gate}
use Rattle.gate.specs.Fresh.{fresh_gate, reset_gate}
use Rattle.gate.specs.Pins.{tin_event}
use Rattle.gate.specs.Registers.{write_tcr, write_preload, write_tsr}
use Rattle.gate.specs.Validity.{sound_gate}
use Rattle.gate.specs.declared.Gate.{Gate}
use Rattle.parallel.specs.Pins.{parallel_pins, parallel_pinned}
use Rattle.parallel.specs.Validity.{sound_of as sound_parallel}
use Rattle.parallel.specs.declared.Parallel.{Parallel}
use Rattle.device.specs.Parts.{with_parallel, with_gate}
use Rattle.device.specs.Fresh.{fresh_device, reset_of}
use Rattle.device.specs.Pins.{pin_of}
use Rattle.device.specs.Registers.{takes, read_of, writes, write_of}
use Rattle.device.specs.Clocking.{clocked_device, after}
use Rattle.device.specs.Events.{effect, made}
use Rattle.device.specs.Validity.{valid_of}
use Rattle.device.specs.declared.Device.{Device}
use Rattle.laws.specs.Parallels as parallels
use Rattle.laws.specs.Timers as timers
use Rattle.laws.specs.Touching.{Agree, any_gate_pin, tin_level_lem}

-- what refusal 8 asks of a device, half by half
pub record Valid (d : Device) : Type 0 where
  pub parallel : parallels.Sound d.parallel
  pub gate : timers.Sound (tin_level d.gate.c) d.gate.timer

-- A device is valid by its definition where it is so half by half, and the other way round.
pub valid_in : (d : Device) → valid_of d ≡ true → Valid d
unfolding valid_of sound_gate
valid_in d h = record {
  parallel = parallels.sound_in d.parallel (and_left _ (sound_gate d.gate) h);
  gate = timers.sound_in d.gate.timer (tin_level d.gate.c) (and_right (sound_parallel d.parallel) _ h);
}

pub valid_out : (d : Device) → Valid d → valid_of d ≡ true
unfolding valid_of sound_gate
valid_out d v = both _ _ (parallels.sound_out d.parallel v.parallel) (timers.sound_out d.gate.timer (tin_level d.gate.c) v.gate)

-- a gate whose timer is sound, with TIN at its level
abbrev SoundGate : Gate → Type 0
SoundGate g = timers.Sound (tin_level g.c) g.timer

-- timer and TIN's level as they were
untouched : (g x : Gate) → Agree g x → SoundGate g → SoundGate x
untouched g x u s = rw (u.timer, u.tin) s

-- a sound half put in the place of another
module _ (d : Device) (v : Valid d) where
  in_parallel : (p : Parallel) → parallels.Sound p → Valid (with_parallel d p)
  in_parallel p s = record { parallel = s; gate = v.gate }

  in_gate : (g : Gate) → SoundGate g → Valid (with_gate d g)
  in_gate g s = record { parallel = v.parallel; gate = s }

  write_valid : (r x : ℕ) → x < 256 → Valid (write_of d r x)
  unfolding write_of write_tcr write_preload write_tsr tin_level
  write_valid r x byte =
      let p = d.parallel in
      let t = d.gate.timer in
      let level = tin_level d.gate.c in
      let s = v.parallel in
      each Valid (writes d x) d r (λ _. v)
      (λ _. in_parallel _ (parallels.pgcr_sound x p s))
      (λ _. in_parallel _ (parallels.psrr_sound x p byte s))
      (λ _. in_parallel _ (parallels.ports_sound p _ _ s))
      (λ _. in_parallel _ (parallels.ports_sound p _ _ s))
      (λ _. in_gate _ v.gate)
      (λ _. in_parallel _ (parallels.pivr_sound x p byte s))
      (λ _. in_parallel _ (parallels.control_sound H12 x p s))
      (λ _. in_parallel _ (parallels.control_sound H34 x p s))
      (λ _. in_parallel _ (parallels.write_sound H12 x p s))
      (λ _. in_parallel _ (parallels.write_sound H34 x p s))
      (λ _. in_gate _ v.gate)
      (λ _. in_parallel _ (parallels.psr_sound x p s))
      (λ _. in_gate _ (timers.tcr_sound t x level byte v.gate))
      (λ _. in_gate _ (timers.tivr_sound t x level v.gate))
      (λ _ _. in_gate _ (timers.preload_sound t (r - CPRH) x level byte v.gate))
      (λ _. in_gate _ (timers.tsr_sound t x level v.gate))

  read_valid : (r : ℕ) → Valid (read_of d r).device
  unfolding read_of
  read_valid r =
      in_parallel _
      (each parallels.Sound (takes d.parallel) d.parallel r (λ _. v.parallel)
      (λ _. parallels.read_sound H12 d.parallel v.parallel)
      (λ _. parallels.read_sound H34 d.parallel v.parallel))

  pin_valid : (pin : ℕ) (level : Bool) → Valid (pin_of d pin level)
  unfolding pin_of parallel_pinned tin_event
  pin_valid pin level =
      let p = d.parallel in
      let s = v.parallel in
      record {
        parallel =
            each parallels.Sound (parallel_pins p level) p pin (λ _. s)
            (λ _ _. parallels.ports_sound p _ _ s)
            (λ _ _. parallels.ports_sound p _ _ s)
            (λ _. parallels.first_pin_sound H12 level p s)
            (λ _. parallels.second_pin_sound H12 level p s)
            (λ _. parallels.first_pin_sound H34 level p s)
            (λ _. parallels.second_pin_sound H34 level p s);
        gate =
            any_gate_pin SoundGate d.gate pin level
            (λ x u. untouched d.gate x u v.gate)
            (λ _. rw (tin_level_lem d.gate level) (timers.tin_sound d.gate.timer (tin_level d.gate.c) level v.gate));
      }

  clock_valid : Valid (clocked_device d).part
  unfolding clocked_device clocked_gate
  clock_valid = record {
    parallel = parallels.clock_sound d.parallel v.parallel;
    gate = timers.clock_sound d.gate.timer (tin_level d.gate.c) v.gate;
  }

  reset_valid : Valid (reset_of d)
  unfolding reset_of reset_gate reset_c
  reset_valid = record {
    parallel = parallels.parallel_reset d.parallel;
    gate = timers.reset_sound d.gate.timer _ _ v.gate;
  }

-- A valid device stays valid through every write of a byte.
pub write_stays : (d : Device) (r v : ℕ) → v < 256 → valid_of d ≡ true → valid_of (write_of d r v) ≡ true
write_stays d r v l h = valid_out (write_of d r v) (write_valid d (valid_in d h) r v l)

-- A valid device stays valid through every read.
pub read_stays : (d : Device) (r : ℕ) → valid_of d ≡ true → valid_of (read_of d r).device ≡ true
read_stays d r h = valid_out (read_of d r).device (read_valid d (valid_in d h) r)

-- A valid device stays valid through every pin event.
pub pin_stays : (d : Device) (pin : ℕ) (level : Bool) → valid_of d ≡ true → valid_of (pin_of d pin level) ≡ true
pin_stays d pin level h = valid_out (pin_of d pin level) (pin_valid d (valid_in d h) pin level)

-- A valid device stays valid through a clock.
pub clock_stays : (d : Device) → valid_of d ≡ true → valid_of (clocked_device d).part ≡ true
clock_stays d h = valid_out (clocked_device d).part (clock_valid d (valid_in d h))

-- A valid device stays valid through n clocks.
pub clocks_stay : (n : ℕ) (d : Device) → valid_of d ≡ true → valid_of (after n d) ≡ true
unfolding after
clocks_stay zero d h = h
clocks_stay (suc n) d h = clocks_stay n (clocked_device d).part (clock_stays d h)

-- A valid device stays valid through reset.
pub reset_stays : (d : Device) → valid_of d ≡ true → valid_of (reset_of d) ≡ true
reset_stays d h = valid_out (reset_of d) (reset_valid d (valid_in d h))

-- A fresh device is valid.
pub fresh_valid : valid_of fresh_device ≡ true
unfolding fresh_device fresh_gate fresh_c
fresh_valid = valid_out fresh_device (record { parallel = parallels.parallel_fresh; gate = timers.fresh_sound _ })

-- a written value is a byte
abbrev pub Byte : Event → Type 0
Byte (Write r v) = v < 256
Byte (Read r) = Unit {0}
Byte PortAcknowledge = Unit {0}
Byte TimerAcknowledge = Unit {0}
Byte (Pin n level) = Unit {0}
Byte (Clocks n) = Unit {0}
Byte Reset = Unit {0}

-- A valid device stays valid through every event.
pub event_stays : (d : Device) (k : ℕ) (e : Event) → Byte e → valid_of d ≡ true → valid_of (effect d k e).device ≡ true
unfolding effect
event_stays d k (Write r v) l h = write_stays d r v l h
event_stays d k (Read r) l h = read_stays d r h
event_stays d k PortAcknowledge l h = h
event_stays d k TimerAcknowledge l h = h
event_stays d k (Pin n level) l h = pin_stays d n level h
event_stays d k (Clocks n) l h = clocks_stay n d h
event_stays d k Reset l h = reset_stays d h

-- so is every written value of a list
abbrev pub Bytes : List Event → Type 0
Bytes [] = Unit {0}
Bytes (e ∷ es) = Byte e × Bytes es

-- A valid device stays valid through every list of events.
pub list_stays : (es : List Event) (d : Device) (k : ℕ) → Bytes es → valid_of d ≡ true → valid_of (made d k es).device ≡ true
unfolding made
list_stays [] d k b h = h
list_stays (e ∷ es) d k b h = list_stays es (effect d k e).device (effect d k e).clocks b.1 (event_stays d k e b.0 h)
