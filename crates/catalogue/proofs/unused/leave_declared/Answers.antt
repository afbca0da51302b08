use Rattle.std.proofs.Common.{◌∙◌, ap, ℕ, List, not, rules, sym}
use Rattle.std.proofs.lemmas.Fn.{filter_same}
use Rattle.words.specs.Items.{texts_of}
use Rattle.catalogue.specs.{Declarations.declared_by, Unused.declares}
use Rattle.catalogue.proofs.FirstLemmas.{filter_mapped}
use Rattle.catalogue.proofs.unused.leave_declared.Goals as goal

pub returns : goal.returns
returns c =
    let is_left = λ (name : List ℕ). not (declares name (declared_by c.args.heading.now)) in
    ap texts_of (filter_same _ (λ name. is_left name.now) _ (λ x b f k. search rules) _ _
    c.retain.ensures.filtered)
    ∙ sym (filter_mapped is_left (λ name. name.now) c.args.left.now.items)
