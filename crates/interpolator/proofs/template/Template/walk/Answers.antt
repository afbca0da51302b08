use Rattle.std.proofs.{Common.subst, lemmas.Str.IsUtf8-string_bytes}
use Rattle.std.specs.Str.{IsUtf8}
use Rattle.interpolator.proofs.template.Template.walk.Goals as goal

pub returns-clause-utf8 : goal.returns-clause-utf8
returns-clause-utf8 g c =
    subst IsUtf8 c.self.view_is (IsUtf8-string_bytes c.self.inside.text)
