-- A run with reload and preload 0 throughout (01, 'Timer').
use Rattle.std.specs.Prelude.{ℕ, ◌+◌, ◌-◌, ◌≤◌, ◌<◌, Bool, true, false, not, ◌&&◌, List, [], ◌∷◌, ◌≡◌, refl, eqb}
use Rattle.std.proofs.Common.{◌∙◌, arith}
use Rattle.std.specs.Int.Bits.{bit_and}
use Rattle.bits.specs.Choice.{branch}
use Rattle.bits.specs.Field.{bit_of}
use Rattle.event.specs.Map.{TCR, CPRH, number_bytes}
use Rattle.event.specs.declared.Event.{Event}
use Rattle.event.specs.declared.Event.TheVariants.{Write, Read, PortAcknowledge, TimerAcknowledge, Pin, Clocks, Reset}
use Rattle.port_c.specs.Pins.{tin_level}
use Rattle.timer.specs.Control.{tcr_bits, rolls_of, runs_of, by_rises}
use Rattle.timer.specs.Parts.{with_tcr, with_zds, with_rise}
use Rattle.timer.specs.Running.{halted_of, tin_goes}
use Rattle.timer.specs.Registers.{with_byte, switched_of, controlled_of, cleared_of, preloaded_of, reset_of as reset_timer}
use Rattle.timer.specs.declared.Timer.{Timer}
use Rattle.clocks.specs.Counts.{lowers_of}
use Rattle.clocks.specs.NeverOpens.{Barren, due_barren, never_opens, still_barren}
use Rattle.gate.specs.Fresh.{reset_gate}
use Rattle.gate.specs.Pins.{tin_event}
use Rattle.gate.specs.Registers.{write_tcr, write_preload, write_tsr, gate_written}
use Rattle.gate.specs.declared.Gate.{Gate}
use Rattle.device.specs.Events.{effect, made}
use Rattle.device.specs.Following.{followed, opens_by, gate_follows, gate_opens}
use Rattle.device.specs.declared.Device.{Device}
use Rattle.laws.specs.Touching.{tcr_holds, any_write, any_gate_pin}

-- what is written to TCR is a byte with reload, and what is written to a preload register is 0
abbrev pub Fruitless : Event → Type 0
Fruitless (Write r v) = (r ≡ TCR → (v < 256) × (rolls_of v ≡ false)) × (CPRH ≤ r → r < CPRH + number_bytes → v ≡ 0)
Fruitless (Read r) = Unit {0}
Fruitless PortAcknowledge = Unit {0}
Fruitless TimerAcknowledge = Unit {0}
Fruitless (Pin n level) = Unit {0}
Fruitless (Clocks n) = Unit {0}
Fruitless Reset = Unit {0}

abbrev pub AllFruitless : List Event → Type 0
AllFruitless [] = Unit {0}
AllFruitless (e ∷ es) = Fruitless e × AllFruitless es

barren_tin : (t : Timer) (old new : Bool) → Barren t → Barren (tin_goes t old new)
unfolding tin_goes lowers_of
barren_tin t old new b =
    branch Barren (not (runs_of t.tcr new)) _ _
    (λ _. branch Barren (runs_of t.tcr old) (halted_of t) t (λ _. due_barren (halted_of t) b.reload b.preload refl) (λ _. b))
    (λ _.
    branch Barren (by_rises t.tcr && (not old && new)) (with_rise t true) t
    (λ _. record { reload = b.reload; preload = b.preload; zero = b.zero })
    (λ _. b))

barren_tcr : (t : Timer) (v : ℕ) (tin : Bool) → v < 256 → rolls_of v ≡ false → Barren t → Barren (controlled_of t v tin)
unfolding controlled_of switched_of lowers_of
barren_tcr t v tin byte reload b =
    let r = (tcr_holds v byte).1 ∙ reload in
    branch Barren (runs_of (bit_and v tcr_bits) tin) _ _
    (λ _. record { reload = r; preload = b.preload; zero = b.zero })
    (λ _. due_barren (halted_of (with_tcr t (bit_and v tcr_bits))) r b.preload refl)

zero_byte : (n place v : ℕ) → n ≡ 0 → v ≡ 0 → with_byte n place v ≡ 0
unfolding with_byte
zero_byte n place v p q =
    branch (λ x. x ≡ 0) (eqb place 0) _ _ (λ _. omega arith)
    (λ _. branch (λ x. x ≡ 0) (eqb place 1) _ _ (λ _. omega arith) (λ _. omega arith))

write_barren : (g : Gate) (r v : ℕ) → Fruitless (Write r v) → Barren g.timer → Barren (gate_written g r v).timer
unfolding write_tcr write_preload write_tsr preloaded_of cleared_of lowers_of
write_barren g r v f b =
    let t = g.timer in
    any_write (λ (x : Gate). Barren x.timer) g r v
    (λ x a. rw a.timer b)
    (λ e. barren_tcr t v (tin_level g.c) (f.0 e).0 (f.0 e).1 b)
    (λ _. record { reload = b.reload; preload = b.preload; zero = b.zero })
    (λ low high. record { reload = b.reload; preload = zero_byte t.preload.0 (r - CPRH) v b.preload (f.1 low high); zero = b.zero })
    (λ _. branch Barren (bit_of v 0) (with_zds t false) t (λ _. record { reload = b.reload; preload = b.preload; zero = b.zero }) (λ _. b))

-- a barren gate stays so, and nothing opens it
gate_barren : (e : Event) (g : Gate) (k : ℕ) → Fruitless e → Barren g.timer → Barren (followed g e).timer × (opens_by g k e ≡ [])
unfolding tin_event reset_gate reset_timer bit_of
gate_barren (Write r v) g k f b = (write_barren g r v f b, refl)
gate_barren (Read r) g k f b = (b, refl)
gate_barren PortAcknowledge g k f b = (b, refl)
gate_barren TimerAcknowledge g k f b = (b, refl)
gate_barren (Pin n level) g k f b =
    (any_gate_pin (λ (x : Gate). Barren x.timer) g n level (λ x a. rw a.timer b) (λ _. barren_tin g.timer (tin_level g.c) level b), refl)
gate_barren (Clocks n) g k f b = (still_barren (tin_level g.c) n g.timer b, never_opens (tin_level g.c) n k g.timer b)
gate_barren Reset g k f b = (due_barren (reset_timer g.timer) refl b.preload refl, refl)

-- With reload and preload 0 throughout nothing opens, whatever the source and whatever else happens; a kept 1 opens nothing where a
-- load is due.
pub nothing_opens : (es : List Event) (d : Device) (k : ℕ) → Barren d.gate.timer → AllFruitless es → (made d k es).openings ≡ []
unfolding made
nothing_opens [] d k b f = refl
nothing_opens (e ∷ es) d k b f =
    let s = gate_barren e d.gate k f.0 b in
    rw (gate_opens d k e, s.1) (nothing_opens es (effect d k e).device (effect d k e).clocks (rw (gate_follows d k e) s.0) f.1)
