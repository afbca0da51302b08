use Rattle.std.proofs.Common.{arith, rules, ◌^◌, ◌<◌, length, chars}
use Rattle.std.proofs.lemmas.Str.{length-le-encodes, encodes-chars}
use Rattle.interpolator_pieces.proofs.{NodeDepthLemmas.nodes_shallow, WholeLemmas.nodes_whole}
use Rattle.interpolator_pieces.proofs.walk.walk_text.Goals as goal

pub walk-requires-clause-whole : goal.walk-requires-clause-whole
walk-requires-clause-whole g c = grind (arith, nodes_whole)

pub walk-requires-clause-fits : goal.walk-requires-clause-fits
walk-requires-clause-fits g c =
    let small : length c.args.text.now < 2 ^ 64 = search rules in
    grind (arith, nodes_shallow, length-le-encodes (chars c.args.text.now), encodes-chars)
