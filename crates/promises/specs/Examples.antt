-- 01's lists to try, P1 to P12, and an example of 02, R-2, in one table.
use Rattle.std.specs.Prelude.{ℕ, List, [], ◌∷◌, ◌++◌, map, ◌≡◌, refl, take, replicate}
use Rattle.std.proofs.Common.{ap, ◌∙◌}
use Rattle.bits.specs.Field.{bit_of, field_of, with_bit}
use Rattle.port.specs.Buffering.{stored_count}
use Rattle.port.specs.Control.{mode_of, submode_field, handshake_field, way_of, handshake_of, enabled_of, first_sense, second_sense, rules_of}
use Rattle.port.specs.Moving.{stored_of, shifted_of, moved_of, moved_count}
use Rattle.port.specs.Handshaking.{movable_of, readied_of, clocked_strobe}
use Rattle.port.specs.Edges as edges
use Rattle.port.specs.Switching.{begins_of, pgcr_written, control_written}
use Rattle.port.specs.Status.{status_in}
use Rattle.port.specs.Fresh.{fresh_port, fresh_link}
use Rattle.port.specs.Validity as link_validity
use Rattle.port_c.specs.Fresh.{fresh_c}
use Rattle.port_c.specs.Pins.{tin_level}
use Rattle.interrupt.specs.Enabling.{dma_of, enabled_in}
use Rattle.interrupt.specs.Priority.{orders, ranked_of, flag_of, first_of, highest_of}
use Rattle.interrupt.specs.Answering.{offset_of, vector_of, answer_of, acknowledge_of}
use Rattle.timer.specs.Control.{source_of, runs_of, by_rises, clock_steps}
use Rattle.timer.specs.Counting.{scaled_of, at_zero_of, count_of, step_of}
use Rattle.timer.specs.Running.{tin_goes, takes_rise, risen_of, clocked_timer}
use Rattle.timer.specs.Registers as timer_registers
use Rattle.timer.specs.Validity as timer_validity
use Rattle.wire.specs.Field.{field_at}
use Rattle.wire.specs.Next.{size_of, close_at, pin_or_refusal, event_at, next_at}
use Rattle.wire.specs.List.{parse, rest}
use Rattle.gate.specs.Clocking.{clocked_gate}
use Rattle.gate.specs.Fresh.{fresh_gate}
use Rattle.gate.specs.Pins.{tin_event, line_event, gate_pinned}
use Rattle.gate.specs.Registers.{write_tcr, write_preload}
use Rattle.gate.specs.Validity.{sound_gate}
use Rattle.parallel.specs.Parts.{link_of, with_link, own_port, rules_at}
use Rattle.parallel.specs.Pins as pins
use Rattle.parallel.specs.Switching.{write_pgcr, write_psrr, write_pivr, write_control}
use Rattle.parallel.specs.Interrupts as interrupts
use Rattle.parallel.specs.Clocking.{clocked_parallel, clocks_of}
use Rattle.parallel.specs.Fresh.{fresh_parallel}
use Rattle.parallel.specs.Validity as parallel_validity
use Rattle.device.specs.Fresh.{fresh_device}
use Rattle.device.specs.Pins.{pin_of}
use Rattle.device.specs.Registers.{read_of, write_of}
use Rattle.device.specs.Clocking.{clocked_device, after, openings}
use Rattle.device.specs.Events.{effect, made}
use Rattle.device.specs.Validity.{valid_of}
use Rattle.device.specs.declared.Device.{Device}
use Rattle.device.specs.ManyClocks.{halves, opens}
use Rattle.clocks.specs.NeverOpens.{due_barren, never_opens}
use Rattle.play.specs.Play.{Result, settled, play_of}

-- what a call shows: refusal and place, the answer bytes, the opening numbers, and how many bytes port A holds
pub record Shown : Type 0 where
  pub refusal : ℕ
  pub place : ℕ
  pub answers : List ℕ
  pub openings : List ℕ
  pub held : ℕ

abbrev pub shown : ℕ → ℕ → List ℕ → List ℕ → ℕ → Shown
shown r p answers openings held = record { refusal = r; place = p; answers = answers; openings = openings; held = held }

abbrev pub shown_of : Result → Shown
shown_of x = shown x.outcome.refusal x.outcome.place (take x.outcome.answers x.answers) (take x.outcome.openings x.openings) x.outcome.device.parallel.h12.held

-- a list, the room for openings, and what is to be shown
pub record Example : Type 0 where
  pub list : List ℕ
  pub room : ℕ
  pub wanted : Shown

abbrev pub example : List ℕ → ℕ → Shown → Example
example list room wanted = record { list = list; room = room; wanted = wanted }

-- played on a fresh device, with room for one answer
unfoldable pub found : Example → Shown
unfolding
    play_of valid_of made effect
    parse rest next_at event_at close_at pin_or_refusal size_of field_at
    bit_of field_of
    source_of runs_of timer_validity.sound_of timer_validity.rests_of timer_registers.fresh_timer timer_registers.switched_of timer_registers.controlled_of timer_registers.preloaded_of
    timer_registers.with_byte
    mode_of submode_field handshake_field way_of handshake_of enabled_of first_sense second_sense rules_of movable_of stored_count stored_of shifted_of moved_of moved_count status_in
    link_validity.sound_of link_validity.ranges_of link_validity.allowed_of link_validity.strobed_of
    edges.restarted_of edges.flushed_of edges.first_edge edges.second_edge readied_of begins_of pgcr_written control_written fresh_port fresh_link
    link_of with_link own_port rules_at pins.pins_of pins.asserts_of pins.first_edge pins.second_edge pins.with_first pins.with_second pins.first_pin pins.second_pin pins.parallel_pinned
    write_pgcr write_psrr write_pivr write_control fresh_parallel parallel_validity.sound_of
    tin_level fresh_c fresh_gate write_tcr write_preload sound_gate tin_goes by_rises tin_event line_event with_bit
    fresh_device read_of write_of gate_pinned pin_of
    dma_of enabled_in orders ranked_of flag_of first_of highest_of offset_of vector_of answer_of acknowledge_of
    interrupts.first_status_of interrupts.second_status_of interrupts.statuses_of interrupts.enabled_of interrupts.port_acknowledge
found r = shown_of (play_of r.list fresh_device (replicate 2 0) (replicate r.room 0))

-- P8 preload 0, 65,536 clocks
abbrev pub barren : Example
barren = example (0x15 ∷ 0x00 ∷ 0x10 ∷ 0x01 ∷ 0xbf ∷ 0xff ∷ 0xfc ∷ []) 2 (shown 0 0 [] [] 0)

-- it is not worked out clock by clock: with reload and preload 0 no clock opens, and clocks move no byte
never : found barren ≡ barren.wanted
unfolding found clocks_of
never =
    let d = write_of (write_of fresh_device 21 0) 16 1 in
    let t = d.gate.timer in
    ap (λ (l : List ℕ). shown_of (settled fresh_device (replicate 2 0) (replicate 2 0) (record { device = after 65536 d; answers = []; openings = l ++ []; clocks = 65536 })))
    (opens 65536 0 d ∙ never_opens (tin_level d.gate.c) 65536 0 t (due_barren t refl refl refl))
    ∙ ap (λ (x : Device). shown 0 0 [] [] x.parallel.h12.held) (halves 65536 d)

abbrev pub table : List Example
table =
    -- P1 empty list
    example [] 2 (shown 2 0 [] [] 0)
    -- P2 E0
    ∷ example (0xe0 ∷ []) 2 (shown 0 0 [] [] 0)
    -- P3 E1
    ∷ example (0xe1 ∷ []) 2 (shown 4 3 [] [] 0)
    -- P4 E0 00
    ∷ example (0xe0 ∷ 0x00 ∷ []) 2 (shown 5 8 [] [] 0)
    -- P5 pin 28
    ∷ example (0x9c ∷ 0xf0 ∷ []) 2 (shown 3 0 [] [] 0)
    -- P6 preload 1, 63 clocks
    ∷ example (0x15 ∷ 0x01 ∷ 0x10 ∷ 0x01 ∷ 0xa0 ∷ 0x07 ∷ 0xdc ∷ []) 2 (shown 0 0 [] [] 0)
    -- P7 preload 1, 64 clocks
    ∷ example (0x15 ∷ 0x01 ∷ 0x10 ∷ 0x01 ∷ 0xa0 ∷ 0x07 ∷ 0xfc ∷ []) 2 (shown 0 0 [] (64 ∷ []) 0)
    -- P8 preload 0, 65,536 clocks
    ∷ barren
    -- P9 preload 1 with roll, 128 clocks
    ∷ example (0x15 ∷ 0x01 ∷ 0x10 ∷ 0x11 ∷ 0xa0 ∷ 0x0f ∷ 0xfc ∷ []) 2 (shown 0 0 [] (64 ∷ []) 0)
    -- P10 two openings, room for one
    ∷ example (0x15 ∷ 0x01 ∷ 0x10 ∷ 0x01 ∷ 0xa0 ∷ 0x0f ∷ 0xfc ∷ []) 1 (shown 7 0 [] [] 0)
    -- P11 PIVR 40, priority 101, H2S and H3S: PIVR 40, PSRR 1D, PGCR 30, PACR 04, PBCR 02, H2 low, H3 low, port acknowledge
    ∷ example (0x05 ∷ 0x40 ∷ 0x01 ∷ 0x1d ∷ 0x00 ∷ 0x30 ∷ 0x06 ∷ 0x04 ∷ 0x07 ∷ 0x02 ∷ 0x99 ∷ 0x4d ∷ 0x17 ∷ []) 2 (shown 0 0 (1 ∷ 0x42 ∷ []) [] 0)
    -- P12 three input edges, control 0XX: PGCR 10, then H1 low, high, low, high, low
    ∷ example (0x00 ∷ 0x10 ∷ 0x98 ∷ 0x4c ∷ 0x66 ∷ 0x13 ∷ 0x19 ∷ 0x87 ∷ []) 2 (shown 0 0 [] [] 2)
    -- the list that `pit-run` is shown with
    ∷ example (0x15 ∷ 0x01 ∷ 0x10 ∷ 0x01 ∷ 0xa0 ∷ 0x0f ∷ 0xe7 ∷ 0x5c ∷ []) 2 (shown 0 0 (1 ∷ 1 ∷ []) (64 ∷ 128 ∷ []) 0)
    -- 02, R-2: preload 1, TCR 07, PC2 high, low, high, 1 clock, PC2 low, high, 1 clock: the two rises before the first clock count once
    ∷ example (0x15 ∷ 0x01 ∷ 0x10 ∷ 0x07 ∷ 0x92 ∷ 0xc9 ∷ 0x24 ∷ 0xb4 ∷ 0x00 ∷ 0x02 ∷ 0x49 ∷ 0x25 ∷ 0xa0 ∷ 0x00 ∷ 0x1c ∷ []) 2 (shown 0 0 [] (2 ∷ []) 0)
    ∷ []

-- each of some examples shows what is wanted
abbrev AsWanted : List Example → Type 0
AsWanted [] = Unit {0}
AsWanted (x ∷ xs) = (found x ≡ x.wanted) × AsWanted xs

each : (xs : List Example) → AsWanted xs → map found xs ≡ map (λ x. x.wanted) xs
each [] h = refl
each (x ∷ xs) h = rw (h.0, each xs h.1)

-- Every row of the table shows what is wanted.
pub every_row : map found table ≡ map (λ x. x.wanted) table
unfolding found after openings clocked_device clocked_parallel clocked_gate clock_steps scaled_of at_zero_of count_of step_of takes_rise risen_of clocked_timer clocked_strobe
every_row =
    each table (refl, (refl, (refl, (refl, (refl, (refl, (refl, (never, (refl, (refl, (refl, (refl, (refl, (refl, tt))))))))))))))
