-- The named values are searched for the bytes of the name, which are the bytes of its characters.
use Rattle.std.proofs.Common.{◌∙◌, ap, sym, Some}
use Rattle.std.proofs.lemmas.Str.{encodes-chars}
use Rattle.std.specs.Option.{option_copied, option_map}
use Rattle.interpolator_eval.specs.Contexts.{last_under}
use Rattle.interpolator.specs.NamedValues.{named_slots}
use Rattle.interpolator.proofs.NamedValueLemmas.{last_pair}
use Rattle.interpolator.proofs.values.ValuesContext.get.Goals as goal

pub returns-in-Some : goal.returns-in-Some
returns-in-Some c =
    record {
      found = rw (encodes-chars c.args.key.now c.utf8.key)
          (ap Some c.slots.ensures
          ∙ ap (λ o. option_map named_slots (option_copied o)) (sym c.in-Some.is)
          ∙ ap (option_map named_slots) c.last_named.ensures
          ∙ last_pair c.named.result.now c.args.key.now
          ∙ ap (λ pairs. last_under pairs c.args.key.now) c.named.ensures);
    }

pub returns-in-None : goal.returns-in-None
returns-in-None c =
    record {
      found = rw (encodes-chars c.args.key.now c.utf8.key)
          (ap (λ o. option_map named_slots (option_copied o)) (sym c.in-None.is)
          ∙ ap (option_map named_slots) c.last_named.ensures
          ∙ last_pair c.named.result.now c.args.key.now
          ∙ ap (λ pairs. last_under pairs c.args.key.now) c.named.ensures);
    }
