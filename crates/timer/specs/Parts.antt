-- A timer with one part changed. Nothing else spells a timer or its phase whole but a halt's phase and a fresh timer.
use Rattle.std.specs.Prelude.{ℕ, Bool}
use Rattle.timer.specs.declared.Prescaler.{Prescaler}
use Rattle.timer.specs.declared.Count.{Count}
use Rattle.timer.specs.declared.Phase.{Phase}
use Rattle.timer.specs.declared.Timer.{Timer}

-- the one place where a phase is spelled out from another
abbrev phase_with : Phase → Prescaler → Bool → Bool → Bool → Bool → Phase
phase_with p prescaler zds square due rise = record { prescaler = prescaler; zds = zds; square = square; due = due; rise = rise }

-- and a timer
abbrev timer_with : Timer → ℕ → ℕ → Count → Count → Phase → Timer
timer_with t tcr tivr preload count phase = record { tcr = tcr; tivr = tivr; preload = preload; count = count; phase = phase }

abbrev pub with_tcr : Timer → ℕ → Timer
with_tcr t v = timer_with t v t.tivr t.preload t.count t.phase

abbrev pub with_tivr : Timer → ℕ → Timer
with_tivr t v = timer_with t t.tcr v t.preload t.count t.phase

abbrev pub with_preload : Timer → ℕ → Timer
with_preload t n = timer_with t t.tcr t.tivr (record { 0 = n }) t.count t.phase

abbrev pub with_count : Timer → Count → Timer
with_count t c = timer_with t t.tcr t.tivr t.preload c t.phase

abbrev pub with_phase : Timer → Phase → Timer
with_phase t p = timer_with t t.tcr t.tivr t.preload t.count p

abbrev pub with_prescaler : Timer → Prescaler → Timer
with_prescaler t p = with_phase t (phase_with t.phase p t.phase.zds t.phase.square t.phase.due t.phase.rise)

abbrev pub with_zds : Timer → Bool → Timer
with_zds t v = with_phase t (phase_with t.phase t.phase.prescaler v t.phase.square t.phase.due t.phase.rise)

abbrev pub with_square : Timer → Bool → Timer
with_square t v = with_phase t (phase_with t.phase t.phase.prescaler t.phase.zds v t.phase.due t.phase.rise)

abbrev pub with_due : Timer → Bool → Timer
with_due t v = with_phase t (phase_with t.phase t.phase.prescaler t.phase.zds t.phase.square v t.phase.rise)

abbrev pub with_rise : Timer → Bool → Timer
with_rise t v = with_phase t (phase_with t.phase t.phase.prescaler t.phase.zds t.phase.square t.phase.due v)
