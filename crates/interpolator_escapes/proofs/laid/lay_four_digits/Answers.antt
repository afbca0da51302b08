use Rattle.std.proofs.Common.{◌∙◌, ◌/◌, ◌∷◌, ◌++◌, List, ℕ, ap, append_assoc}
use Rattle.std.specs.Str.{chars}
use Rattle.interpolator_escapes.specs.Escapes.{two_digits}
use Rattle.interpolator_escapes.proofs.laid.lay_four_digits.Goals as goal

pub returns-clause-text : goal.returns-clause-text
unfolding chars
returns-clause-text c =
    let code = c.args.code in
    c.lay_two_digits-2.ensures.text
    ∙ ap (λ (l : List ℕ). l ++ two_digits code) c.lay_two_digits.ensures.text
    ∙ append_assoc c.args.room.now (92 ∷ 117 ∷ two_digits (code / 256)) (two_digits code)
