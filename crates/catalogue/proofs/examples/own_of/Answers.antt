use Rattle.std.proofs.Common.{◌∙◌, ap, map, rules, sym}
use Rattle.std.proofs.lemmas.List.Elements.{filter_from_retain}
use Rattle.interpolator.specs.Faults.{answer_of}
use Rattle.catalogue.specs.Examples.{is_own_reply}
use Rattle.catalogue.proofs.FirstLemmas.{filter_mapped}
use Rattle.catalogue.proofs.examples.own_of.Goals as goal

pub returns : goal.returns
returns c =
    ap (map answer_of) (filter_from_retain _ (λ error. is_own_reply (answer_of error))
    (λ p x b q k. search rules) _ c.args.errors.items _ c.retain.ensures.filtered)
    ∙ sym (filter_mapped is_own_reply answer_of c.args.errors.items)
