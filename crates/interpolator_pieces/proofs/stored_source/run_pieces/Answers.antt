use Rattle.std.proofs.Common.{rules, arith, ◌≡◌, ◌∷◌, ◌∙◌, true, ℕ, List, IsSome}
use Rattle.std.proofs.lemmas.Result.{err_from_is_err_and}
use Rattle.interpolator_syntax.specs.Nodes.{as_forest, nodes_and}
use Rattle.interpolator_eval.specs.Meaning.Sources.{first_holds}
use Rattle.interpolator_eval.proofs.MeaningLemmas.FirstPieceLemmas.{first_stops, first_list}
use Rattle.interpolator_eval.proofs.MeaningLemmas.FirstPieceLemmas.{first_on}
use Rattle.interpolator_pieces.specs.Stored.{content_of, forest_whole, node_of, nodes_of}
use Rattle.interpolator_pieces.specs.declared.piece.Piece.{Piece}
use Rattle.interpolator_pieces.proofs.RunLemmas.{asks_form, first_list as list_first}
use Rattle.interpolator_pieces.proofs.StoredLemmas.{node_of_out}
use Rattle.interpolator_pieces.proofs.WholePieceLemmas.{both, fits_text}
use Rattle.interpolator_pieces.proofs.stored_source.run_pieces.Goals as goal

-- the first of pieces that fit their text holds something, and the others fit it
record FirstFits (bs : List ℕ) (xs : List Piece) (x : Piece) (after : List Piece) : Type 0 where
  pub first : as_forest (nodes_of bs xs) ≡ nodes_and (node_of bs x) (as_forest (nodes_of bs after))
  pub holds : first_holds (as_forest (nodes_of bs xs)) ≡ true
  pub held : IsSome (content_of bs x)
  pub whole : forest_whole (as_forest (nodes_of bs after)) ≡ true

first_fits : (bs : List ℕ) (xs : List Piece) (x : Piece) (after : List Piece) → xs ≡ x ∷ after
    → forest_whole (as_forest (nodes_of bs xs)) ≡ true → FirstFits bs xs x after
first_fits bs xs x after split h = grind (arith, both, fits_text, node_of_out)

pub returns-in_err-run_piece : goal.returns-in_err-run_piece
returns-in_err-run_piece g c =
    let fits = first_fits c.args.source.text.now _ c.in-Some.piece.now c.in-Some.after.now
    (search rules) c.loop-piece.invariant.whole in
    let stops = first_stops _ _ c.loop-piece.invariant.passed c.tick.ensures.one fits.first
    fits.holds c.in_err-run_piece.ensures.outcome in
    let err = err_from_is_err_and c.from_residual.result c.from_residual.ensures.1 in
    rw (err.1, err.2)
    (record { outcome = stops.0; met = tt; visited = omega (arith, stops.1); exact = tt })

pub returns-then-branch : goal.returns-then-branch
returns-then-branch g c =
    let bs = c.args.source.text.now in
    let split : c.loop-piece.rest.now ≡ c.in-Some.piece.now ∷ c.in-Some.after.now = search rules in
    let fits = first_fits bs _ c.in-Some.piece.now _ split c.loop-piece.invariant.whole in
    let form = c.in_ok-run_piece.ensures.list ∙ c.if-branch.true in
    let list = first_list _ _ c.loop-piece.invariant.passed c.tick.ensures.one fits.first fits.holds
    (asks_form bs _ fits.held ∙ form) c.in_ok-run_piece.ensures.outcome in
    record {
      outcome = list.0;
      met = (rw split form, rw (list.1, split) (list_first bs _ _ form fits.held));
      visited = omega (arith, list.2);
      exact = list.2;
    }

pub loop-piece-preserved : goal.loop-piece-preserved
loop-piece-preserved g c =
    let bs = c.args.source.text.now in
    let fits = first_fits bs _ c.in-Some.piece.now c.in-Some.after.now (search rules)
    c.loop-piece.invariant.whole in
    record {
      whole = fits.whole;
      passed = first_on _ _ c.loop-piece.invariant.passed c.tick.ensures.one fits.first fits.holds
          (asks_form bs _ fits.held ∙ c.in_ok-run_piece.ensures.list ∙ c.if-branch.false)
          c.in_ok-run_piece.ensures.outcome;
    }
