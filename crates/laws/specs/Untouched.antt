-- What 01 does not touch stays, in a device that is refused too.
use Rattle.std.specs.Prelude.{◌≡◌, refl, Bool, true, false, not, ◌&&◌, if◌then◌else◌}
use Rattle.std.proofs.Common.{true≢false}
use Rattle.bits.specs.Field.{bit_of}
use Rattle.timer.specs.Control.{source_of, runs_of, by_rises}
use Rattle.timer.specs.Parts.{with_rise}
use Rattle.timer.specs.Running.{halted_of, tin_goes}
use Rattle.timer.specs.declared.Timer.{Timer}
use Rattle.port.specs.Control.{drives_of}
use Rattle.port.specs.Handshaking.{ended_of}
use Rattle.port.specs.Parts.{with_wait}
use Rattle.port.specs.declared.Handshake.{Handshake}
use Rattle.port.specs.declared.Handshake.TheVariants.{Sense, Negated, Asserted, Interlocked, Pulsed}
use Rattle.port.specs.declared.Strobe.{Strobe}

still : (t : Timer) (level runs rises : Bool) → (if not runs then (if runs then halted_of t else t) else if rises && (not level && level) then with_rise t true else t) ≡ t
still t level false rises = refl
still t level true false = refl
still t true true true = refl
still t false true true = refl

-- 'An edge happens only at a pin event that changes the level ..': a level that TIN has already does nothing to the timer.
pub same_tin : (t : Timer) (level : Bool) → tin_goes t level level ≡ t
unfolding tin_goes
same_tin t level = still t level (runs_of t.tcr level) (by_rises t.tcr)

without : (t : Timer) (runs : Bool) → (if not runs then (if runs then halted_of t else t) else t) ≡ t
without t true = refl
without t false = refl

-- '.. of a pin that is an input': with source 00 PC2 is no TIN, and its level does nothing to the timer.
pub no_input : (t : Timer) (old new : Bool) → source_of t.tcr ≡ 0 → tin_goes t old new ≡ t
unfolding tin_goes runs_of by_rises
no_input t old new clk = rw clk (without t (bit_of t.tcr 0 && true))

-- A timer that runs at neither level stays as it is, whether it is halted as stated or not.
pub halted_alone : (t : Timer) (old new : Bool) → runs_of t.tcr old ≡ false → runs_of t.tcr new ≡ false → tin_goes t old new ≡ t
unfolding tin_goes
halted_alone t old new was is = rw (is, was)

-- A wait that ends where neither 110 nor 111 applies ends, and that is all.
pub ends_alone : (s : Strobe) (h : Handshake) → drives_of h ≡ false → ended_of s h ≡ with_wait s 0
ends_alone s Sense e = refl
ends_alone s Negated e = refl
ends_alone s Asserted e = refl
ends_alone s Interlocked e = absurd (true≢false e)
ends_alone s Pulsed e = absurd (true≢false e)
