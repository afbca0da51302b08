use Rattle.std.proofs.Common.{refl}
use Rattle.interpolator_render.specs.{Padding.padded_text, Texts.view_text}
use Rattle.interpolator_syntax.specs.SpecTexts.{spec_from_sign, spec_after}
use Rattle.interpolator_syntax.specs.{Arguments.argument_at, Groups.group_at, Lists.list_at}
use Rattle.interpolator_syntax.specs.{Nodes.nodes, Pieces.argument_from, Ranges.range_at}
use Rattle.interpolator_syntax.specs.Tokens.{first_token}
use Rattle.interpolator_escapes.proofs.laws.worked_parts.Goals as goal

pub returns : goal.returns
unfolding nodes first_token argument_from argument_at spec_after spec_from_sign list_at range_at
    group_at view_text padded_text
returns c = record { page = refl; list = refl; padded = refl; as_they_are = refl }
