use Rattle.std.proofs.Common.{◌∙◌, sym}
use Rattle.interpolator_render.proofs.SpecLemmas.{same_from_fields, fields_from_same}
use Rattle.interpolator_render.proofs.laws.equal_specs.Goals as goal

pub returns : goal.returns
returns c = (
  λ t. same_from_fields c.args.one c.args.other (sym c.eq.ensures ∙ t),
  λ e. rw (← e) at c.eq.ensures ∙ fields_from_same c.args.one,
)
