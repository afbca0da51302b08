-- How a text ends, and which text may follow it: none that would double a lone brace at its end.
use Rattle.std.specs.Prelude.{◌≢◌, ℕ, Bool, true, false, not, ◌==◌, List, [], ◌∷◌}
use Rattle.interpolator_syntax.specs.Pieces.{PieceKind, Piece, literal, doubled, lone_close, closed}
use Rattle.interpolator_syntax.specs.Pieces.{unclosed, broken, pieces, argument_from}
use Rattle.interpolator_syntax.specs.Tokens.{Token, literals, argument, doubled as doubled_token}
use Rattle.interpolator_syntax.specs.Tokens.{lone_close as lone_token}
use Rattle.interpolator_syntax.specs.{Places.At, Places.outermost, Classes.close_brace}
use Rattle.interpolator.specs.declared.parts.Ending.{Ending}
use Rattle.interpolator.specs.declared.parts.Ending.TheVariants.{Settled, LoneClose, Open}

-- how a piece of that kind ends
abbrev pub kind_ending : PieceKind → Ending
kind_ending (literal c) = Settled
kind_ending (doubled c) = Settled
kind_ending lone_close = LoneClose
kind_ending (closed start x end) = Settled
kind_ending (unclosed start x end) = Open
kind_ending (broken f) = Open

-- how a piece ends
abbrev pub piece_ending : Piece → Ending
piece_ending x = kind_ending x.kind

-- how the last of these pieces ends, or `e` if there is none
abbrev pub last_ending : Ending → List Piece → Ending
last_ending e [] = e
last_ending e (x ∷ xs) = last_ending (piece_ending x) xs

-- how a text ends: as its last piece does
abbrev pub ending : At → Ending
ending a = last_ending Settled (pieces a)

-- it does not end in an argument that is unclosed or broken
abbrev pub EndsClosed : At → Type 0
EndsClosed a = ending a ≢ Open

-- whether a text begins with a closing brace
abbrev pub begins_close : List ℕ → Bool
begins_close [] = false
begins_close (c ∷ cs) = c == close_brace

-- whether a text may follow one that ends so: it may not double a lone brace, but it may go on with
-- an argument that is open
abbrev pub may_follow : Ending → List ℕ → Bool
may_follow Settled more = true
may_follow LoneClose more = not (begins_close more)
may_follow Open more = true

-- whether the text b may follow the text a: not if a ends in a lone `}` and b begins with `}`
abbrev pub seam_of : (a b : List ℕ) → Bool
seam_of a b = may_follow (ending (outermost a)) b

-- how a token of the scan ends, with b after it
abbrev pub token_ending : Token → (b : At) → Ending
token_ending (literals cs) b = Settled
token_ending (doubled_token c) b = Settled
token_ending lone_token b = LoneClose
token_ending argument b = piece_ending (argument_from b.place b).piece
