use Rattle.std.proofs.Common.{◌++◌, ap, ◌∙◌}
use Rattle.std.specs.Str.{chars}
use Rattle.interpolator_syntax.specs.Places.{outermost}
use Rattle.interpolator_eval.specs.Meaning.AskedNames.{asked_names}
use Rattle.interpolator_pieces.specs.{NodeNames.name_texts, declared.names.Names.Names}
use Rattle.interpolator_pieces.proofs.StoredNameLemmas.{text_names}
use Rattle.interpolator.proofs.template.Template.names.Goals as goal

pub returns-clause-names : goal.returns-clause-names
returns-clause-names c =
    let a = outermost (chars c.args.self.now) in
    text_names {V = Names} _ (λ v. v.names.items) (λ old new x adds. adds) a _ _
    c.in_ok-walk.ensures.walks
    ∙ ap (λ names. name_texts names ++ asked_names a) c.new.ensures.items
