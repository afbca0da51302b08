use Rattle.std.proofs.{Common.arith, Common.append-nil, lemmas.List.map-append}
use Rattle.interpolator_pieces.proofs.StoredLemmas.{node_of_out}
use Rattle.interpolator_pieces.proofs.names.NamesVisitor.enter.Goals as goal

pub returns-in_ok-push-in-Some : goal.returns-in_ok-push-in-Some
returns-in_ok-push-in-Some c = grind (arith, map-append, node_of_out)

pub returns-in-None : goal.returns-in-None
returns-in-None c = grind (arith, append-nil, node_of_out)
