-- The kind of I/O error that a fault is converted to.
use Rattle.std.specs.declared.io.ErrorKind.{ErrorKind}
use Rattle.std.specs.declared.io.ErrorKind.TheVariants.{OutOfMemory, Other}
use Rattle.interpolator_syntax.specs.declared.{error.Error.Error, error.Error.TheVariants.NoMemory}

-- out of memory, or one without a kind of its own
abbrev pub kind_of : Error → ErrorKind
kind_of NoMemory = OutOfMemory
kind_of _ = Other
