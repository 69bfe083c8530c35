-- Any kind of error but one is not that one.
use Rattle.std.proofs.Common.{◌≡◌, ◌≢◌, false, refl}
use Rattle.std.specs.declared.io.ErrorKind.{ErrorKind}
use Rattle.std.specs.declared.io.ErrorKind.TheVariants.{BrokenPipe}
use Rattle.report.specs.Streams.{is_broken_pipe}

pub other : (kind : ErrorKind) → kind ≢ BrokenPipe → is_broken_pipe kind ≡ false
other BrokenPipe differs = absurd (differs refl)
other _ differs = refl
