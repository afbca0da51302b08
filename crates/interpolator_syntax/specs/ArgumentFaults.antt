-- Which faults an argument can have.
use Rattle.std.specs.Prelude.{⊤}
use Rattle.interpolator_syntax.specs.Faults.{Fault, parse, unsupported_option}

-- its text is broken, or it uses an option that is not supported
abbrev pub IsArgumentFault : Fault → Type 0
IsArgumentFault (parse f) = ⊤
IsArgumentFault (unsupported_option option feature place) = ⊤
IsArgumentFault _ = ⊥
