use Rattle.std.proofs.Common.{arith, inl}
use Rattle.interpolator_pieces.proofs.ListTextLemmas.{rest_fits, rest_fit, rest_stands}
use Rattle.interpolator_pieces.proofs.formatting.write_from_list.Goals as goal

pub cut-requires : goal.cut-requires
cut-requires g c =
    record { fits = rest_fits c.args.format.now c.utf8.format c.args.place c.requires.list }

pub invariant_of-source : goal.invariant_of-source
invariant_of-source g c =
    let fit = rest_fit c.args.format.now c.utf8.format c.args.place c.requires.list _
    c.cut.ensures.text _ c.in_ok-pieces.ensures.stand in grind arith

pub returns-clause-outcome : goal.returns-clause-outcome
returns-clause-outcome g c =
    let stands = rest_stands c.args.format.now c.utf8.format c.args.place c.requires.list _
    c.cut.ensures.text _ c.in_ok-pieces.ensures.stand in inl (grind arith)
