-- Ports and pairs that may be handed in stay so through everything that happens to them (01, refusal 8).
use Rattle.std.specs.Prelude.{ℕ, ◌<◌, ◌≡◌, refl, Bool, true, not, ◌&&◌, ◌||◌, eqb}
use Rattle.std.specs.Int.Bits.{bit_and}
use Rattle.bits.specs.Choice.{branch, and_left, and_right, both}
use Rattle.bits.specs.Field.{bit_of}
use Rattle.bits.specs.Trying.{any_below}
use Rattle.interrupt.specs.Answering.{reset_vector}
use Rattle.port.specs.Control.{first_sense, second_sense, rules_of, inputs_of, outputs_of}
use Rattle.port.specs.Parts.{with_levels}
use Rattle.port.specs.Validity.{sound_of as sound_link}
use Rattle.port.specs.declared.Pair.{Pair}
use Rattle.port.specs.declared.Pair.TheVariants.{H12, H34}
use Rattle.port.specs.declared.Port.{Port}
use Rattle.port.specs.declared.Link.{Link}
use Rattle.port.specs.declared.Rules.{Rules}
use Rattle.parallel.specs.Parts.{link_of, with_link, with_ports, rules_at}
use Rattle.parallel.specs.Pins.{asserts_of, first_edge, second_edge, with_first, with_second, first_pin, second_pin}
use Rattle.parallel.specs.Data.{DataRead, drawn_by, read_data, sent_by, latched_by, write_data}
use Rattle.parallel.specs.Switching.{write_pgcr, psrr_bits, write_psrr, pivr_bits, write_pivr, write_control, write_psr}
use Rattle.parallel.specs.Clocking.{clocked_parallel}
use Rattle.parallel.specs.Fresh.{fresh_parallel, reset_of}
use Rattle.parallel.specs.Validity.{sound_of}
use Rattle.parallel.specs.declared.Parallel.{Parallel}
use Rattle.laws.specs.Links.{IsSoundUnder, carried, first_edge_control, first_edge_kept, second_edge_control, second_edge_kept, counted_control}
use Rattle.laws.specs.Links.{read_kept, written_kept, flags_kept, levels_unread, clock_kept, pgcr_kept, control_kept, reset_sound, fresh_sound}

-- what refusal 8 asks of ports and pairs, part by part
pub record Sound (p : Parallel) : Type 0 where
  pub psrr : not (bit_of p.psrr 7) ≡ true
  pub pivr : (eqb (bit_and p.pivr 3) 0 || eqb p.pivr reset_vector) ≡ true
  pub h12 : IsSoundUnder H12 p.pgcr p.h12
  pub h34 : IsSoundUnder H34 p.pgcr p.h34

pub sound_in : (p : Parallel) → sound_of p ≡ true → Sound p
unfolding sound_of rules_at link_of
sound_in p h =
    let psrr = not (bit_of p.psrr 7) in
    let pivr = eqb (bit_and p.pivr 3) 0 || eqb p.pivr reset_vector in
    let one = sound_link p.h12 (rules_of H12 p.pgcr p.h12.control) in
    let two = sound_link p.h34 (rules_of H34 p.pgcr p.h34.control) in
    let three : (psrr && pivr && one) ≡ true = and_left _ two h in
    let registers : (psrr && pivr) ≡ true = and_left _ one three in
    record {
      psrr = and_left psrr pivr registers;
      pivr = and_right psrr pivr registers;
      h12 = and_right (psrr && pivr) one three;
      h34 = and_right (psrr && pivr && one) two h;
    }

pub sound_out : (p : Parallel) → Sound p → sound_of p ≡ true
unfolding sound_of rules_at link_of
sound_out p s = both _ _ (both _ _ (both _ _ s.psrr s.pivr) s.h12) s.h34

-- a pair by its name
at : (pair : Pair) (p : Parallel) → Sound p → IsSoundUnder pair p.pgcr (link_of p pair)
unfolding link_of
at H12 p s = s.h12
at H34 p s = s.h34

-- any ports
pub ports_sound : (p : Parallel) (a b : Port) → Sound p → Sound (with_ports p a b)
ports_sound p a b s = record { psrr = s.psrr; pivr = s.pivr; h12 = s.h12; h34 = s.h34 }

-- another sound pair in its place, and any ports
put : (pair : Pair) (p : Parallel) (a b : Port) (l : Link) → Sound p → IsSoundUnder pair p.pgcr l → Sound (with_link (with_ports p a b) pair l)
unfolding with_link
put H12 p a b l s h = record { psrr = s.psrr; pivr = s.pivr; h12 = h; h34 = s.h34 }
put H34 p a b l s h = record { psrr = s.psrr; pivr = s.pivr; h12 = s.h12; h34 = h }

-- a pair whose control register is as it was, sound under its rules
module _ (pair : Pair) (p : Parallel) (s : Sound p) where
  abbrev link : Link
  link = link_of p pair

  abbrev rules : Rules
  rules = rules_of pair p.pgcr link.control

  pub first_edge_sound : Sound (first_edge p pair)
  unfolding first_edge rules_at
  first_edge_sound = put pair p _ _ _ s (carried pair p.pgcr link.control _ (first_edge_control link rules) (first_edge_kept link rules (at pair p s)))

  pub second_edge_sound : Sound (second_edge p pair)
  unfolding second_edge rules_at
  second_edge_sound =
      put pair p p.a p.b _ s (carried pair p.pgcr link.control _ (second_edge_control link rules) (second_edge_kept link rules (at pair p s)))

  levels_sound : (x y : Bool) → Sound (with_link p pair (with_levels link x y))
  levels_sound x y = put pair p p.a p.b _ s (levels_unread x y link rules (at pair p s))

  drawn_sound : Sound (drawn_by p pair (rules_at p pair))
  unfolding drawn_by rules_at
  drawn_sound = put pair p _ _ _ s (carried pair p.pgcr link.control _ (counted_control link rules _) (read_kept link rules (at pair p s)))

  sent_sound : (v : ℕ) → Sound (sent_by p pair (rules_at p pair) v)
  unfolding sent_by rules_at
  sent_sound v = put pair p _ _ _ s (carried pair p.pgcr link.control _ (counted_control link rules _) (written_kept link rules (at pair p s)))

pub first_pin_sound : (pair : Pair) (level : Bool) (p : Parallel) → Sound p → Sound (first_pin p pair level)
unfolding first_pin with_first
first_pin_sound pair level p s =
    branch Sound (asserts_of (link_of p pair).level1 level (first_sense pair p.pgcr)) _ _
    (λ _. first_edge_sound pair (with_link p pair (with_levels (link_of p pair) level (link_of p pair).level2)) (levels_sound pair p s level (link_of p pair).level2))
    (λ _. levels_sound pair p s level (link_of p pair).level2)

pub second_pin_sound : (pair : Pair) (level : Bool) (p : Parallel) → Sound p → Sound (second_pin p pair level)
unfolding second_pin with_second
second_pin_sound pair level p s =
    branch Sound (asserts_of (link_of p pair).level2 level (second_sense pair p.pgcr)) _ _
    (λ _. second_edge_sound pair (with_link p pair (with_levels (link_of p pair) (link_of p pair).level1 level)) (levels_sound pair p s (link_of p pair).level1 level))
    (λ _. levels_sound pair p s (link_of p pair).level1 level)

pub read_sound : (pair : Pair) (p : Parallel) → Sound p → Sound (read_data p pair).parallel
unfolding read_data
read_sound pair p s =
    branch (λ (d : DataRead). Sound d.parallel) (inputs_of (rules_at p pair).way) _ _ (λ _. drawn_sound pair p s) (λ _. s)

latched_sound : (pair : Pair) (v : ℕ) (p : Parallel) → Sound p → Sound (latched_by p pair v)
unfolding latched_by
latched_sound H12 v p s = ports_sound p _ _ s
latched_sound H34 v p s = ports_sound p _ _ s

pub write_sound : (pair : Pair) (v : ℕ) (p : Parallel) → Sound p → Sound (write_data p pair v)
unfolding write_data
write_sound pair v p s =
    branch Sound (outputs_of (rules_at p pair).way) _ _ (λ _. sent_sound pair p s v) (λ _. latched_sound pair v p s)

pub pgcr_sound : (v : ℕ) (p : Parallel) → Sound p → Sound (write_pgcr p v)
unfolding write_pgcr
pgcr_sound v p s = record {
  psrr = s.psrr;
  pivr = s.pivr;
  h12 = pgcr_kept H12 p.pgcr v p.h12 s.h12;
  h34 = pgcr_kept H34 p.pgcr v p.h34 s.h34;
}

-- a written PSRR has bit 7 clear
psrr_fits : (v : ℕ) → v < 256 → not (bit_of (bit_and v psrr_bits) 7) ≡ true
unfolding bit_of
psrr_fits v l = any_below 256 (λ v. not (bit_of (bit_and v psrr_bits) 7)) refl v l

pub psrr_sound : (v : ℕ) (p : Parallel) → v < 256 → Sound p → Sound (write_psrr p v)
unfolding write_psrr
psrr_sound v p l s = record { psrr = psrr_fits v l; pivr = s.pivr; h12 = s.h12; h34 = s.h34 }

-- a written PIVR has its lower two bits clear
pivr_fits : (v : ℕ) → v < 256 → (eqb (bit_and (bit_and v pivr_bits) 3) 0 || eqb (bit_and v pivr_bits) reset_vector) ≡ true
pivr_fits v l = any_below 256 (λ v. eqb (bit_and (bit_and v pivr_bits) 3) 0 || eqb (bit_and v pivr_bits) reset_vector) refl v l

pub pivr_sound : (v : ℕ) (p : Parallel) → v < 256 → Sound p → Sound (write_pivr p v)
unfolding write_pivr
pivr_sound v p l s = record { psrr = s.psrr; pivr = pivr_fits v l; h12 = s.h12; h34 = s.h34 }

pub control_sound : (pair : Pair) (v : ℕ) (p : Parallel) → Sound p → Sound (write_control p pair v)
unfolding write_control
control_sound pair v p s = put pair p p.a p.b _ s (control_kept pair p.pgcr v (link_of p pair) (at pair p s))

pub psr_sound : (v : ℕ) (p : Parallel) → Sound p → Sound (write_psr p v)
unfolding write_psr
psr_sound v p s = record {
  psrr = s.psrr;
  pivr = s.pivr;
  h12 = flags_kept (bit_of v 0) (bit_of v 1) p.h12 _ s.h12;
  h34 = flags_kept (bit_of v 2) (bit_of v 3) p.h34 _ s.h34;
}

pub clock_sound : (p : Parallel) → Sound p → Sound (clocked_parallel p)
unfolding clocked_parallel rules_at link_of
clock_sound p s = record { psrr = s.psrr; pivr = s.pivr; h12 = clock_kept p.h12 _ s.h12; h34 = clock_kept p.h34 _ s.h34 }

pub parallel_reset : (p : Parallel) → Sound (reset_of p)
unfolding reset_of bit_of
parallel_reset p = record { psrr = refl; pivr = refl; h12 = reset_sound H12 p.h12; h34 = reset_sound H34 p.h34 }

pub parallel_fresh : Sound fresh_parallel
unfolding fresh_parallel bit_of
parallel_fresh = record { psrr = refl; pivr = refl; h12 = fresh_sound H12; h34 = fresh_sound H34 }
