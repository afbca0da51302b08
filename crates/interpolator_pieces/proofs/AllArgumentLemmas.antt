-- The arguments of a text: those of its pieces, those of what the scan hands on, and their names.
use Rattle.std.proofs.Common.{◌≡◌, ℕ, zero, suc, ◌+◌, ◌<◌, ◌≤◌, List, [], ◌∷◌, ◌++◌, length, arith}
use Rattle.std.proofs.Common.{refl, append_assoc, Some, None, map, Ok}
use Rattle.std.proofs.lemmas.List.{append-nil, map-append}
use Rattle.std.specs.{Char.len_utf8, Prelude.option_map}
use Rattle.interpolator_syntax.specs.Arguments.{Argument, argument_at, named_argument, request_of}
use Rattle.interpolator_syntax.specs.Arguments.{argument_of, kind_of, taken_read}
use Rattle.interpolator_syntax.specs.Tokens.{Token, first_token, past_token, argument, token_of}
use Rattle.interpolator_syntax.specs.{Places.At, Places.at, Places.strip, Classes.close_brace}
use Rattle.interpolator_syntax.specs.{PieceGrammar.literal_pieces, PieceGrammar.token_pieces}
use Rattle.interpolator_syntax.specs.{Pieces.Piece, Pieces.pieces, Pieces.argument_from}
use Rattle.interpolator_syntax.specs.declared.argument.Argument as code_argument
use Rattle.interpolator_syntax.specs.declared.token.Token as code_token
use Rattle.interpolator_syntax.specs.declared.token.Token.TheVariants as tokens
use Rattle.interpolator_syntax.specs.declared.argument.TakenArgument.{TakenArgument}
use Rattle.interpolator_syntax.proofs.ScanLemmas.{hands_on, hands_nothing}
use Rattle.interpolator_syntax.proofs.SizeLemmas.{PiecesIn, pieces_in}
use Rattle.interpolator_syntax.proofs.{NodeLemmas.by_length, SplitLemmas.any_brace}
use Rattle.interpolator_syntax.proofs.TokenLemmas.{scan_shorter}
use Rattle.interpolator_eval.specs.Meaning.AskedNames.{asked_names, without_empty}
use Rattle.interpolator_pieces.specs.AllArguments.{kind_arguments, piece_arguments}
use Rattle.interpolator_pieces.specs.AllArguments.{pieces_arguments, arguments_within, arguments_of}
use Rattle.interpolator_pieces.specs.AllArguments.{names_of}
use Rattle.interpolator_eval.proofs.MeaningLemmas.AskedPieceLemmas.{group_asks, pieces_ask}
use Rattle.interpolator_eval.proofs.MeaningLemmas.AskedPieceLemmas.{branch_in_item, asked_pieces}
use Rattle.interpolator_eval.proofs.MeaningLemmas.AskedPieceLemmas.{without_append, without_twice}
use Rattle.interpolator_eval.proofs.MeaningLemmas.GroupSizeLemmas.{kind_size, groups_within}
use Rattle.interpolator_pieces.proofs.ParseLemmas.{taken_is}

-- ---- the arguments of a text are those of its pieces

module _ (a : At) (run other : At → List Argument)
    (same : (b : At) → length b.text < length a.text → run b ≡ other b) where
  pieces_alike : (xs : List Piece) → PiecesIn xs a
      → pieces_arguments run xs ≡ pieces_arguments other xs
  pieces_alike [] h = refl
  pieces_alike (x ∷ xs) h = grind (arith, pieces_alike xs h.2)

-- any sufficient limit of depth gives the same
deep_same : (n m : ℕ) (a : At) → length a.text < n → length a.text < m
    → arguments_within n a ≡ arguments_within m a
deep_same zero m a h k = absurd (omega arith)
deep_same (suc n) zero a h k = absurd (omega arith)
deep_same (suc n) (suc m) a h k =
    pieces_alike a (arguments_within n) (arguments_within m)
    (λ b l. deep_same n m b (omega arith) (omega arith)) (pieces a) (pieces_in a)

pub arguments_pieces : (a : At) → arguments_of a ≡ pieces_arguments arguments_of (pieces a)
unfolding arguments_of
arguments_pieces a =
    let n = length a.text in
    pieces_alike a (arguments_within n) (λ b. arguments_within (suc (length b.text)) b)
    (λ b l. deep_same n (suc (length b.text)) b l (omega arith)) (pieces a) (pieces_in a)

-- ---- they are those of what the scan hands on, and of what follows it

literals_give : (run : At → List Argument) (p : ℕ) (cs : List ℕ) (xs : List Piece)
    → pieces_arguments run (literal_pieces p cs ++ xs) ≡ pieces_arguments run xs
literals_give run p [] xs = refl
literals_give run p (c ∷ cs) xs = literals_give run (p + len_utf8 c) cs xs

-- those of what the scan hands on, with b after it
abbrev pub token_arguments : Token → (b : At) → List Argument
token_arguments argument b = piece_arguments arguments_of (argument_from b.place b).piece.kind
token_arguments t b = []

token_gives : (p : ℕ) (t : Token) (b : At) (xs : List Piece)
    → pieces_arguments arguments_of (token_pieces p t b ++ xs)
    ≡ token_arguments t b ++ pieces_arguments arguments_of xs
token_gives p t b xs = grind (arith, literals_give, any_brace)

arguments_first : (a b : At) (t : Token) → first_token a ≡ Some (t, b)
    → arguments_of a ≡ token_arguments t b ++ arguments_of (past_token t b)
arguments_first a b t h =
    let rest = past_token t b in
    rw (arguments_pieces a, hands_on a t b h, token_gives a.place t b (pieces rest))
    (rw (← arguments_pieces rest) refl)

-- any other token has none, and reading goes on after it
pub no_argument : (x : code_token.Token) (b : At) → ¬ (x ≡ tokens.Argument)
    → (token_arguments (token_of x) b ≡ []) × (past_token (token_of x) b ≡ b)
no_argument x b n = grind arith

-- ---- all that was read

-- `here` is in the text, and what was gathered so far, after what was there before, with the
-- arguments of what is here are those of the whole text
pub record Gathering (text : At) (before so_far : List Argument) (here : At) : Type 0 where
  pub left : length here.text ≤ length text.text
  pub all : so_far ++ arguments_of here ≡ before ++ arguments_of text

module _ (text here : At) (before so_far : List Argument)
    (gathering : Gathering text before so_far here) where
  -- what the scan hands on is gathered
  pub gathers_on :
      (x : Token) (b rest : At) (more : List Argument) → first_token here ≡ Some (x, b)
      → rest ≡ past_token x b → more ≡ so_far ++ token_arguments x b
      → Gathering text before more rest
  gathers_on x b rest more e r m = record {
    left = omega (arith, gathering.left, scan_shorter here rest (x, b) e r);
    all = grind (arith, append_assoc so_far (token_arguments x b), arguments_first);
  }

  -- nothing is left
  pub all_gathered : first_token here ≡ None → so_far ≡ before ++ arguments_of text
  all_gathered e = grind (arith, append-nil, arguments_pieces, hands_nothing)

-- ---- one argument

-- an argument that was read is added, and then those of its groups
module _ (b : At) (t : TakenArgument) (read : taken_read (Ok t) ≡ argument_at b)
    (closes : option_map at t.rest ≡ strip close_brace (at t.end)) where
  abbrev taken : Argument
  taken = named_argument t.name (request_of t.asked)

  pub argument_pushed :
      (old mid new : List code_argument.Argument) (x : code_argument.Argument)
      → argument_of x ≡ taken → mid ≡ old ++ (x ∷ [])
      → map argument_of new ≡ map argument_of mid ++ kind_arguments arguments_of (kind_of x.kind)
      → map argument_of new ≡ map argument_of old
      ++ piece_arguments arguments_of (argument_from b.place b).piece.kind
  argument_pushed old mid new x is added groups =
      grind (arith, map-append, append_assoc, taken_is b t read closes)

  -- its groups are no longer than its text
  pub kind_fits : (x : code_argument.Argument) → argument_of x ≡ taken
      → kind_size (kind_of x.kind) ≤ length b.text
  kind_fits x is = grind (arith, kind_size, groups_within)

-- ---- the names

-- the names of these arguments that are not empty are these names
abbrev Name : List Argument → List (List ℕ) → Type 0
Name xs names = without_empty (names_of xs) ≡ without_empty names

module _ (a : At) (shorter : (b : At) → length b.text < length a.text
    → Name (arguments_of b) (asked_names b)) where
  pieces_names : (xs : List Piece) → PiecesIn xs a
      → Name (pieces_arguments arguments_of xs) (pieces_ask xs)
  pieces_names [] h = refl
  pieces_names (x ∷ xs) h =
      let rest = pieces_names xs h.2 in
      grind (arith, map-append, without_append, group_asks, branch_in_item, without_twice, rest)

-- except for empty names, the names of the arguments of a text are those that it uses
pub arguments_name : (a : At)
    → without_empty (names_of (arguments_of a)) ≡ without_empty (asked_names a)
arguments_name =
    by_length (λ a. Name (arguments_of a) (asked_names a)) (λ a shorter.
    rw (arguments_pieces a, asked_pieces a) (pieces_names a shorter (pieces a) (pieces_in a)))
