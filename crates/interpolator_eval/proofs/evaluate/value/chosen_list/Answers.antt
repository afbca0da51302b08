use Rattle.std.proofs.Common.{rules, chars}
use Rattle.interpolator_eval.specs.{Meaning.CodeEnvironments.environment_of, Slots.slots_of}
use Rattle.interpolator_eval.proofs.MeaningLemmas.LookUpLemmas.{list_chosen, chosen_under}
use Rattle.interpolator_eval.proofs.evaluate.value.chosen_list.Goals as goal

pub returns-clause-chosen : goal.returns-clause-chosen
returns-clause-chosen g c =
    let e = environment_of g.C.Context.finds c.args.environment.now in
    let x = c.args.look_up in
    list_chosen e (chars x.name.now) x.start c.args.range c.args.spec.now x.end
    slots_of c.in-Some-found.items.now c.choose.result.now
    (rw c.in-Some-found.is at c.in-Some.ensures) (search rules) c.choose.ensures

pub returns-clause-items : goal.returns-clause-items
returns-clause-items g c =
    chosen_under _ _ _ slots_of _ _ (rw c.in-Some-found.is at c.in-Some.ensures) c.choose.ensures
