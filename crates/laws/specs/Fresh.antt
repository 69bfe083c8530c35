-- Sentences of 01, 'A fresh device', and PIVR until it is written ('Registers'), each a theorem of its own.
use Rattle.std.specs.Prelude.{◌≡◌, refl, Bool, false, not, List, [], ◌∷◌, ℕ, zero, suc, ◌+◌, ◌<◌, eqb}
use Rattle.std.specs.Bool.{beq}
use Rattle.std.proofs.Common.{eqb-true}
use Rattle.bits.specs.Choice.{branch, beq_true}
use Rattle.bits.specs.Field.{bit_of, field_of, chosen_of, packed_of}
use Rattle.bits.specs.Tables.{Entry, at, find, each}
use Rattle.bits.specs.Trying.{any_below}
use Rattle.event.specs.Map.{PIVR, PAAR, PBAR, PCDR, PSR, TIVR, PC0}
use Rattle.event.specs.declared.Event.{Event}
use Rattle.event.specs.declared.Event.TheVariants.{Write, Read, PortAcknowledge, TimerAcknowledge, Pin, Clocks, Reset}
use Rattle.interrupt.specs.Enabling.{dma_of, enabled_in}
use Rattle.port.specs.Control.{mode_of, submode_field, handshake_field, way_of, handshake_of, enabled_of, first_sense, second_sense, rules_of, inputs_of, outputs_of}
use Rattle.port.specs.Fresh.{fresh_port, reset_port, fresh_link, reset_link}
use Rattle.port.specs.Moving.{oldest_of, drawn_of}
use Rattle.port.specs.Parts.{with_cells, with_outside, with_levels}
use Rattle.port.specs.Status.{status_in, second_level as link_level}
use Rattle.port.specs.declared.Link.{Link}
use Rattle.port.specs.declared.Pair.{Pair}
use Rattle.port.specs.declared.Pair.TheVariants.{H12, H34}
use Rattle.port.specs.declared.Port.{Port}
use Rattle.port_c.specs.Fresh.{fresh_c, reset_c}
use Rattle.port_c.specs.Parts.{with_latch, with_outside as with_outside_c}
use Rattle.port_c.specs.Pins.{tin, plain_pin, tin_pin, tout_pin, dmareq_pin, pirq_pin, piack_pin, tiack_pin, shown_of, data_of}
use Rattle.timer.specs.Control.{source_of, function_of}
use Rattle.timer.specs.Parts.{with_preload, with_count}
use Rattle.timer.specs.Registers.{byte_of, tout_of, fresh_timer, reset_of as reset_timer}
use Rattle.gate.specs.Fresh.{fresh_gate, reset_gate}
use Rattle.gate.specs.Parts.{with_timer, with_c}
use Rattle.parallel.specs.Clocking.{clocked_parallel}
use Rattle.parallel.specs.Data.{DataRead, drawn_by, read_data, sent_by, latched_by, write_data}
use Rattle.parallel.specs.Fresh.{fresh_parallel, reset_of as reset_parallel}
use Rattle.parallel.specs.Interrupts.{first_status_of, second_status_of, statuses_of, enabled_of as interrupts_of, psr_of}
use Rattle.parallel.specs.Parts.{link_of, with_link, with_ports, with_links, own_port, rules_at}
use Rattle.parallel.specs.Pins.{pins_of, asserts_of, first_edge, second_edge, with_first, with_second, first_pin, second_pin, parallel_pins, parallel_pinned, second_level}
use Rattle.parallel.specs.Switching.{write_pgcr, write_psrr, write_control, write_psr}
use Rattle.parallel.specs.declared.Parallel.{Parallel}
use Rattle.device.specs.Clocking.{clocked_device, after}
use Rattle.device.specs.Events.{effect, made}
use Rattle.device.specs.Fresh.{fresh_device, reset_of}
use Rattle.device.specs.Parts.{device_with}
use Rattle.device.specs.Pinned.{pinned as by_pin}
use Rattle.device.specs.Pins.{pins_c, pin_of}
use Rattle.device.specs.Registers.{read_of, writes, write_of}
use Rattle.device.specs.declared.Device.{Device}
use Rattle.laws.specs.Reads.{any_read}

-- both vector registers 0F; alternates and data C read the pins, whose outside levels are high but PC2's, and PSR the levels of H4-H1
abbrev pub fresh_bytes : List (Entry ℕ)
fresh_bytes = at PIVR 0x0f ∷ at TIVR 0x0f ∷ at PAAR 0xff ∷ at PBAR 0xff ∷ at PCDR 0xfb ∷ at PSR 0xf0 ∷ []

-- 'Every register zero, except both vector registers 0F': what each of the 32 numbers reads on a fresh device.
pub fresh_reads : (r : ℕ) → r < 32 → (read_of fresh_device r).byte ≡ find fresh_bytes 0 r
unfolding
    read_of fresh_device fresh_parallel fresh_port fresh_link fresh_gate fresh_c fresh_timer bit_of field_of chosen_of packed_of byte_of source_of function_of tout_of
    mode_of submode_field handshake_field way_of handshake_of enabled_of first_sense second_sense rules_of oldest_of status_in link_level link_of with_link own_port rules_at
    pins_of read_data drawn_by drawn_of first_status_of second_status_of statuses_of interrupts_of psr_of second_level dma_of enabled_in plain_pin tin_pin tout_pin dmareq_pin pirq_pin piack_pin
    tiack_pin shown_of data_of pins_c
fresh_reads r l = eqb-true _ _ (any_below 32 (λ r. eqb (read_of fresh_device r).byte (find fresh_bytes 0 r)) refl r l)

-- the outside level that is remembered of each of the 28 pins
unfoldable pub outside_of : Device → ℕ → Bool
outside_of d =
    let p = d.parallel in
    by_pin (bit_of p.a.outside) (bit_of p.b.outside) (bit_of d.gate.c.outside) p.h12.level1 p.h12.level2 p.h34.level1 p.h34.level2 false

-- 02, R-6: 'A fresh device should hold PC2's outside level low and all other levels high.'
pub fresh_levels : (n : ℕ) → n < 28 → outside_of fresh_device n ≡ not (eqb n (PC0 + tin))
unfolding outside_of by_pin fresh_device fresh_parallel fresh_port fresh_link fresh_gate fresh_c bit_of
fresh_levels n l = beq_true _ _ (any_below 28 (λ n. beq (outside_of fresh_device n) (not (eqb n (PC0 + tin)))) refl n l)

-- Reset keeps every outside level, PC2's too, of every device.
pub reset_levels : (d : Device) (n : ℕ) → outside_of (reset_of d) n ≡ outside_of d n
unfolding outside_of reset_of reset_parallel reset_port reset_link reset_gate reset_c
reset_levels d n = refl

-- a port and a pair with another's data latches, last byte read and outside levels
abbrev keeping_port : Port → Port → Port
keeping_port p fresh = with_outside (with_cells fresh p.cells) p.outside

abbrev keeping_link : Link → Link → Link
keeping_link l fresh = with_levels fresh l.level1 l.level2

-- a device with another's data latches, last bytes read, preload, counter and outside levels
abbrev pub keeping : Device → Device → Device
keeping d fresh =
    let p = d.parallel in
    let g = d.gate in
    let q = fresh.parallel in
    let h = fresh.gate in
    device_with fresh
    (with_links
    (with_ports q (keeping_port p.a q.a) (keeping_port p.b q.b))
    (keeping_link p.h12 q.h12)
    (keeping_link p.h34 q.h34))
    (with_c
    (with_timer h (with_count (with_preload h.timer g.timer.preload.0) g.timer.count))
    (with_outside_c (with_latch h.c g.c.latch) g.c.outside))

-- Reset makes the part fresh, 'but keeps data latches, the last byte read, preload, counter and outside levels'.
pub reset_keeps : (d : Device) → reset_of d ≡ keeping d fresh_device
unfolding
    reset_of reset_parallel reset_port reset_link reset_gate reset_c reset_timer fresh_device fresh_parallel fresh_port fresh_link fresh_gate fresh_c fresh_timer
reset_keeps d = refl

-- PIVR holds what reset leaves
abbrev Unset : Parallel → Type 0
Unset p = p.pivr ≡ 0x0f

module _ (p : Parallel) (h : Unset p) where
  linked : (pair : Pair) (a b : Port) (l : Link) → Unset (with_link (with_ports p a b) pair l)
  unfolding with_link
  linked H12 a b l = h
  linked H34 a b l = h

  data_read_lem : (pair : Pair) → Unset (read_data p pair).parallel
  unfolding read_data drawn_by
  data_read_lem pair = branch (λ (x : DataRead). Unset x.parallel) (inputs_of (rules_at p pair).way) _ _ (λ _. linked pair _ _ _) (λ _. h)

  latched : (pair : Pair) (v : ℕ) → Unset (latched_by p pair v)
  unfolding latched_by
  latched H12 v = h
  latched H34 v = h

  data_written : (pair : Pair) (v : ℕ) → Unset (write_data p pair v)
  unfolding write_data sent_by
  data_written pair v = branch Unset (outputs_of (rules_at p pair).way) _ _ (λ _. linked pair _ _ _) (λ _. latched pair v)

  first_edge_lem : (pair : Pair) → Unset (first_edge p pair)
  unfolding first_edge
  first_edge_lem pair = linked pair _ _ _

module _ (p : Parallel) (h : Unset p) (pair : Pair) (level : Bool) where
  first_level : Unset (first_pin p pair level)
  unfolding first_pin with_first
  first_level =
      branch Unset (asserts_of (link_of p pair).level1 level (first_sense pair p.pgcr)) _ _
      (λ _. first_edge_lem _ (linked p h pair p.a p.b _) pair)
      (λ _. linked p h pair p.a p.b _)

  second_level_lem : Unset (second_pin p pair level)
  unfolding second_pin with_second second_edge
  second_level_lem =
      branch Unset (asserts_of (link_of p pair).level2 level (second_sense pair p.pgcr)) _ _
      (λ _.
      let q = with_link p pair (with_levels (link_of p pair) (link_of p pair).level1 level) in
      linked q (linked p h pair p.a p.b _) pair q.a q.b _)
      (λ _. linked p h pair p.a p.b _)

module _ (d : Device) (h : Unset d.parallel) where
  written : (r v : ℕ) → (r ≡ PIVR → ⊥) → Unset (write_of d r v).parallel
  unfolding write_of write_pgcr write_psrr write_control write_psr
  written r v other =
      let p = d.parallel in
      each (λ (x : Device). Unset x.parallel) (writes d v) d r (λ _. h)
      (λ _. h)
      (λ _. h)
      (λ _. h)
      (λ _. h)
      (λ _. h)
      (λ e. absurd (other e))
      (λ _. linked p h H12 p.a p.b _)
      (λ _. linked p h H34 p.a p.b _)
      (λ _. data_written p h H12 v)
      (λ _. data_written p h H34 v)
      (λ _. h)
      (λ _. h)
      (λ _. h)
      (λ _. h)
      (λ _ _. h)
      (λ _. h)

  pinned : (pin : ℕ) (level : Bool) → Unset (pin_of d pin level).parallel
  unfolding pin_of parallel_pinned
  pinned pin level =
      let p = d.parallel in
      each Unset (parallel_pins p level) p pin (λ _. h)
      (λ _ _. h)
      (λ _ _. h)
      (λ _. first_level p h H12 level)
      (λ _. second_level_lem p h H12 level)
      (λ _. first_level p h H34 level)
      (λ _. second_level_lem p h H34 level)

clocked : (n : ℕ) (d : Device) → Unset d.parallel → Unset (after n d).parallel
unfolding after clocked_device clocked_parallel
clocked zero d h = h
clocked (suc n) d h = clocked n (clocked_device d).part h

-- no event is a write of PIVR
abbrev pub PivrUnwritten : Event → Type 0
PivrUnwritten (Write r v) = r ≡ PIVR → ⊥
PivrUnwritten (Read r) = Unit {0}
PivrUnwritten PortAcknowledge = Unit {0}
PivrUnwritten TimerAcknowledge = Unit {0}
PivrUnwritten (Pin n level) = Unit {0}
PivrUnwritten (Clocks n) = Unit {0}
PivrUnwritten Reset = Unit {0}

abbrev pub AllPivrUnwritten : List Event → Type 0
AllPivrUnwritten [] = Unit {0}
AllPivrUnwritten (e ∷ es) = PivrUnwritten e × AllPivrUnwritten es

still_unset : (d : Device) (k : ℕ) (e : Event) → PivrUnwritten e → Unset d.parallel → Unset (effect d k e).device.parallel
unfolding effect reset_of reset_parallel
still_unset d k (Write r v) u h = written d h r v u
still_unset d k (Read r) u h = any_read Unset d r h (λ _. data_read_lem d.parallel h H12) (λ _. data_read_lem d.parallel h H34)
still_unset d k PortAcknowledge u h = h
still_unset d k TimerAcknowledge u h = h
still_unset d k (Pin n level) u h = pinned d h n level
still_unset d k (Clocks n) u h = clocked n d h
still_unset d k Reset u h = refl

-- 'until then it reads 0F': PIVR, which reads 0F on a fresh device and after reset, does so through all events but a write to it.
pub pivr_until_written : (es : List Event) (d : Device) (k : ℕ) → (read_of d PIVR).byte ≡ 0x0f → AllPivrUnwritten es
    → (read_of (made d k es).device PIVR).byte ≡ 0x0f
unfolding read_of made
pivr_until_written [] d k h u = h
pivr_until_written (e ∷ es) d k h u = pivr_until_written es (effect d k e).device (effect d k e).clocks (still_unset d k e u.0 h) u.1
