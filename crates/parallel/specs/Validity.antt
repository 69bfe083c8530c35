-- When ports and pairs may be handed in (01, refusal 8).
use Rattle.std.specs.Prelude.{Bool, not, ◌&&◌, ◌||◌, eqb}
use Rattle.std.specs.Int.Bits.{bit_and}
use Rattle.bits.specs.Field.{bit_of}
use Rattle.interrupt.specs.Answering.{reset_vector}
use Rattle.port.specs.Validity.{sound_of as sound_link}
use Rattle.port.specs.declared.Pair.TheVariants.{H12, H34}
use Rattle.parallel.specs.Parts.{rules_at}
use Rattle.parallel.specs.declared.Parallel.{Parallel}

-- PSRR's unused bit 7 clear, PIVR without a lower bit set other than 0F, and sound pairs
unfoldable pub sound_of : Parallel → Bool
sound_of p =
    not (bit_of p.psrr 7)
    && (eqb (bit_and p.pivr 3) 0 || eqb p.pivr reset_vector)
    && sound_link p.h12 (rules_at p H12)
    && sound_link p.h34 (rules_at p H34)
