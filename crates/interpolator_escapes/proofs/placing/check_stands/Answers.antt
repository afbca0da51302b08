use Rattle.std.proofs.Common.{arith, ◌≡◌}
use Rattle.std.proofs.lemmas.Result.{err_from_is_err_and}
use Rattle.interpolator_syntax.specs.Nodes.{as_forest}
use Rattle.interpolator_pieces.specs.Stored.{nodes_of}
use Rattle.interpolator_pieces.proofs.WholeLemmas.{nodes_whole}
use Rattle.interpolator_escapes.proofs.PlacingLemmas.{refused}
use Rattle.interpolator_escapes.proofs.placing.check_stands.Goals as goal

pub place_all-requires : goal.place_all-requires
place_all-requires g c = grind (arith, nodes_whole)

pub returns-in_err-place_all-clause-refused : goal.returns-in_err-place_all-clause-refused
returns-in_err-place_all-clause-refused g c =
    let same : g.R.Reader.state c.in_ok-reader.reader ≡ g.R.Reader.state c.args.start.now
    = c.in_ok-reader.ensures in
    let p = err_from_is_err_and c.from_residual-in_err-place_all.result
    c.from_residual-in_err-place_all.ensures.1 in
    rw (p.1, p.2, ← c.requires, ← same)
    (refused g.R.Reader.step g.R.Reader.places (g.R.Reader.state c.in_ok-reader.reader)
    (g.R.Reader.state c.place_all.new.reader)
    (as_forest (nodes_of c.args.text.now c.args.pieces.now)) _ c.in_err-place_all.ensures.reported)
