-- An argument that was read, as the code has it, and what follows it.
use Rattle.std.specs.Prelude.{Option, Some, None, option_map}
use Rattle.interpolator_syntax.specs.Places.{At, at, all_after}
use Rattle.interpolator_syntax.specs.Arguments.{named_argument, request_of}
use Rattle.interpolator_syntax.specs.Pieces.{Step, argument_step}
use Rattle.interpolator_syntax.specs.declared.argument.TakenArgument.{TakenArgument}
use Rattle.interpolator_syntax.specs.declared.piece_kind.PieceKind.{PieceKind}
use Rattle.interpolator_syntax.specs.declared.piece_kind.PieceKind.TheVariants.{Closed, Unclosed}

-- the argument whose text begins at b, after its brace
abbrev pub taken_step : (b : At) → TakenArgument → Step
taken_step b t =
    argument_step b.place b (named_argument t.name (request_of t.asked)) (at t.end)
    (option_map at t.rest)

-- whether it is closed, by what follows its closing brace, if there is one
abbrev pub ending_kind : Option At → PieceKind
ending_kind (Some rest) = Closed
ending_kind None = Unclosed

-- what follows the argument whose spec ends before a
abbrev pub ending_rest : (a : At) → Option At → At
ending_rest a (Some rest) = rest
ending_rest a None = all_after a
