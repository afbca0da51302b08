-- The faults of a text by its first token, and those of an argument by what is read of it.
use Rattle.std.proofs.Common.{◌≡◌, ◌≤◌, refl, arith, ℕ, List, [], ◌∷◌, ◌++◌, length, append_assoc}
use Rattle.std.proofs.Common.{append-nil, Option, None, Some, Result, Ok, Err, IfOk}
use Rattle.interpolator_render.specs.declared.view.Trait.{Trait}
use Rattle.interpolator_syntax.specs.Tokens.{Token, argument, first_token, past_token}
use Rattle.interpolator_syntax.specs.{Places.At, Places.at, Places.strip, Arguments.Argument}
use Rattle.interpolator_syntax.specs.{Arguments.argument_at, Classes.close_brace, Faults.Fault}
use Rattle.interpolator_syntax.specs.{Faults.Answer, Lists.ListRequest, Nodes.nodes}
use Rattle.interpolator_syntax.specs.{Nodes.piece_node, Nodes.token_node, Pieces.argument_from}
use Rattle.interpolator_syntax.specs.{Pieces.argument_step, SpecTexts.of_list, SpecTexts.of_value}
use Rattle.interpolator_syntax.specs.{declared.cursor.Cursor.Cursor, declared.error.Error.Error}
use Rattle.interpolator_syntax.proofs.TokenLemmas.{scan_shorter}
use Rattle.interpolator_eval.proofs.MeaningLemmas.ScanLemmas.{text_next, text_none}
use Rattle.interpolator_pieces.specs.NodeChecks.{brace_faults, list_faults, node_faults}
use Rattle.interpolator_pieces.specs.NodeChecks.{text_faults}
use Rattle.interpolator_pieces.proofs.CheckLemmas.{reported}

-- ---- the first of some faults

-- none is the first only of none
pub none_reported : (xs : List Fault) → reported xs ≡ None → xs ≡ []
none_reported [] h = refl
none_reported (x ∷ xs) h = absurd (cc)

-- what is the first of some is that of these and others
pub first_reported : (xs ys : List Fault) (q : Answer) → reported xs ≡ Some q → reported (xs ++ ys) ≡ Some q
first_reported [] ys q h = absurd (cc)
first_reported (x ∷ xs) ys q h = h

-- ---- a text

module _ (a : At) where
  -- without a token it has none
  pub none_left : first_token a ≡ None → text_faults a ≡ []
  none_left h = grind (arith, text_none)

  -- those of its first piece, and then those of the text after that
  pub faults_next : (x : Token × At) → first_token a ≡ Some x
      → text_faults a
      ≡ node_faults (token_node nodes a.place x.0 x.1) ++ text_faults (past_token x.0 x.1)
  faults_next x h = grind (arith, text_next a x h)

-- no fault comes before the text that is left
pub record Passed (a left : At) : Type 0 where
  pub same : text_faults a ≡ text_faults left
  pub within : length left.text ≤ length a.text

-- nor does one before the text after a token without one
pub text_passed : (a left : At) (x : Token × At) → Passed a left → first_token left ≡ Some x
    → node_faults (token_node nodes left.place x.0 x.1) ≡ [] → Passed a (past_token x.0 x.1)
text_passed a left x p h none = record {
  same = rw (p.same, faults_next left x h, none) refl;
  within = omega (arith, p.within, scan_shorter left (past_token x.0 x.1) x h refl);
}

-- ---- an argument that begins at a, after a brace at p

module _ (a : At) (x : Argument) (q : At) (h : argument_at a ≡ Ok (x, q)) where
  -- what follows it, if it is closed
  pub rest_after : (rest : At) → strip close_brace q ≡ Some rest
      → rest ≡ (argument_from a.place a).rest
  unfolding argument_from
  rest_after rest d = grind arith

  -- the same of an answer
  pub rest_read : (r : Result Cursor Error) → IfOk r (λ c. strip close_brace q ≡ Some (at c))
      → IfOk r (λ c. at c ≡ (argument_from a.place a).rest)
  rest_read (Ok c) h = rest_after (at c) h
  rest_read (Err e) h = tt

module _ (a : At) (p : ℕ) where
  abbrev Faults : List Fault
  Faults = node_faults (token_node nodes p argument a)

  -- one that is broken
  pub broken_faults : (f : Fault) → argument_at a ≡ Err f → Faults ≡ f ∷ []
  unfolding argument_from
  broken_faults f h = grind arith

  module _ (x : Argument) (q : At) (h : argument_at a ≡ Ok (x, q)) where
    abbrev Piece : Option At → List Fault
    Piece o = node_faults (piece_node nodes p (argument_step a.place a x q o).rest.place
        (argument_step a.place a x q o).piece.kind)

    here_is : Faults ≡ Piece (strip close_brace q)
    unfolding argument_from
    here_is = rw h refl

    -- one that is a value
    pub value_faults : (t : Trait) → x.kind ≡ of_value t
        → Faults ≡ brace_faults q.place (strip close_brace q)
    value_faults t value = grind (arith, here_is)

    -- one that is a list
    pub list_reported : (l : ListRequest) → x.kind ≡ of_list l
        → Faults ≡ list_faults x.spec q.place l ++ brace_faults q.place (strip close_brace q)
    list_reported l list = grind (arith, here_is, append_assoc, append-nil)
