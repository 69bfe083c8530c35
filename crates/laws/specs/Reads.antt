-- What a read changes, and what reads and acknowledges leave as it is (01, 'Registers', 'Interrupts', and 'Ways this part has been
-- misread').
use Rattle.std.specs.Prelude.{◌≡◌, refl, not, ◌&&◌, ℕ}
use Rattle.std.proofs.Common.{ap}
use Rattle.bits.specs.Choice.{branch}
use Rattle.bits.specs.Tables.{each}
use Rattle.event.specs.Map.{PADR, PBDR, PAAR, PBAR}
use Rattle.event.specs.declared.Event.TheVariants.{PortAcknowledge, TimerAcknowledge}
use Rattle.port.specs.Control.{inputs_of, rules_of}
use Rattle.port.specs.Moving.{removed_of, drawn_of}
use Rattle.port.specs.Handshaking.{ready_of}
use Rattle.port.specs.Data.{counted_of, read_count, read_of as link_read}
use Rattle.port.specs.Parts.{with_held, with_strobe, with_cells as port_cells}
use Rattle.port.specs.declared.Link.{Link}
use Rattle.port.specs.declared.Rules.{Rules}
use Rattle.port.specs.declared.Pair.TheVariants.{H12, H34}
use Rattle.parallel.specs.Parts.{link_of, with_link, with_links, with_ports, with_cells, own_port, rules_at}
use Rattle.parallel.specs.Pins.{pins_of}
use Rattle.parallel.specs.Data.{DataRead, drawn_by, read_data}
use Rattle.parallel.specs.declared.Parallel.{Parallel}
use Rattle.device.specs.Parts.{with_parallel}
use Rattle.device.specs.Registers.{plainly, takes, read_of}
use Rattle.device.specs.Events.{effect}
use Rattle.device.specs.declared.Device.{Device}

-- A port acknowledge clears nothing, and changes nothing else.
pub port_acknowledge_leaves : (d : Device) (k : ℕ) → (effect d k PortAcknowledge).device ≡ d
unfolding effect
port_acknowledge_leaves d k = refl

-- A timer acknowledge clears nothing, and changes nothing else.
pub timer_acknowledge_leaves : (d : Device) (k : ℕ) → (effect d k TimerAcknowledge).device ≡ d
unfolding effect
timer_acknowledge_leaves d k = refl

-- Alternates read the eight pin levels, and a read of them consumes no byte and changes nothing else.
pub alternate_a_read : (d : Device) → read_of d PAAR ≡ plainly d (pins_of d.parallel H12)
unfolding read_of
alternate_a_read d = refl

pub alternate_b_read : (d : Device) → read_of d PBAR ≡ plainly d (pins_of d.parallel H34)
unfolding read_of
alternate_b_read d = refl

-- a data read moves its pair's count and handshake alone
read_moves : (l : Link) (rules : Rules) → link_read l rules ≡ with_strobe (with_held l (link_read l rules).held) (link_read l rules).strobe
unfolding counted_of
read_moves l rules =
    let n = read_count rules.way l.held in
    branch (λ (x : Link). x ≡ with_strobe (with_held l x.held) x.strobe) (not (ready_of rules l.held) && ready_of rules n) _ _ (λ _. refl) (λ _. refl)

-- A read of data A changes port A's cells and the count and the handshake of H1 and H2 alone, and one of data B those of B, H3 and H4.
abbrev pub OnlyA : Parallel → Parallel → Type 0
OnlyA p q = q ≡ with_links (with_ports p (port_cells p.a q.a.cells) p.b) (with_strobe (with_held p.h12 q.h12.held) q.h12.strobe) p.h34

abbrev pub OnlyB : Parallel → Parallel → Type 0
OnlyB p q = q ≡ with_links (with_ports p p.a (port_cells p.b q.b.cells)) p.h12 (with_strobe (with_held p.h34 q.h34.held) q.h34.strobe)

pub data_a_read : (d : Device) → OnlyA d.parallel (read_of d PADR).device.parallel
unfolding read_of read_data drawn_by drawn_of with_link rules_at rules_of own_port link_of
data_a_read d =
    let p = d.parallel in
    branch (λ (x : DataRead). OnlyA p x.parallel) (inputs_of (rules_at p H12).way) _ _
    (λ _. ap (λ (l : Link). with_links (with_cells p (removed_of p.h12.held p.a.cells) p.b.cells) l p.h34) (read_moves p.h12 (rules_at p H12)))
    (λ _. refl)

pub data_b_read : (d : Device) → OnlyB d.parallel (read_of d PBDR).device.parallel
unfolding read_of read_data drawn_by drawn_of with_link rules_at rules_of own_port link_of
data_b_read d =
    let p = d.parallel in
    branch (λ (x : DataRead). OnlyB p x.parallel) (inputs_of (rules_at p H34).way) _ _
    (λ _. ap (λ (l : Link). with_links (with_cells p p.a.cells (removed_of p.h34.held p.b.cells)) p.h12 l) (read_moves p.h34 (rules_at p H34)))
    (λ _. refl)

-- What holds of ports and pairs, and of them after a read of data A and of data B, holds after every read.
pub any_read : (P : Parallel → Type 0) (d : Device) (r : ℕ) → P d.parallel → (r ≡ PADR → P (read_data d.parallel H12).parallel)
    → (r ≡ PBDR → P (read_data d.parallel H34).parallel) → P (read_of d r).device.parallel
unfolding read_of
any_read P d r h = each P (takes d.parallel) d.parallel r (λ _. h)

-- A read of any register but data A and data B changes nothing.
pub other_reads : (d : Device) (r : ℕ) → (r ≡ PADR → ⊥) → (r ≡ PBDR → ⊥) → (read_of d r).device ≡ d
unfolding read_of
other_reads d r a b =
    ap (with_parallel d) (any_read (λ p. p ≡ d.parallel) d r refl (λ e. absurd (a e)) (λ e. absurd (b e)))
