use Rattle.std.proofs.{Common.arith, lemmas.Str.chars-nil}
use Rattle.interpolator_syntax.proofs.FirstByteLemmas.{no_space}
use Rattle.interpolator_syntax.proofs.class.split_space.Goals as goal

pub returns-in-Some-33-to-126-clause-front : goal.returns-in-Some-33-to-126-clause-front
returns-in-Some-33-to-126-clause-front c =
    let none = no_space c.args.text.now c.in-Some-33-to-126.field-0.now c.utf8.text in
    grind (arith, none, chars-nil)

pub returns-in-Some-33-to-126-clause-after : goal.returns-in-Some-33-to-126-clause-after
returns-in-Some-33-to-126-clause-after c =
    let none = no_space c.args.text.now c.in-Some-33-to-126.field-0.now c.utf8.text in
    grind (arith, none, chars-nil)
