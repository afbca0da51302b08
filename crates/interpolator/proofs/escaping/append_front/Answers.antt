use Rattle.std.specs.Str.{chars}
use Rattle.interpolator.proofs.EscapeLemmas.{front_appended, brace_appended}
use Rattle.interpolator.proofs.escaping.append_front.Goals as goal

pub returns-in-None-clause-ok : goal.returns-in-None-clause-ok
returns-in-None-clause-ok c =
    front_appended _ _ _ _ (chars c.args.text.now) c.in_ok-append.ensures.ok
    c.split_class.ensures.front c.split_class.ensures.after

pub returns-in_ok-append_twice-in-Some-clause-ok :
    goal.returns-in_ok-append_twice-in-Some-clause-ok
returns-in_ok-append_twice-in-Some-clause-ok c =
    brace_appended _ _ _ _ _ _ (chars c.args.text.now) c.in-Some.brace c.in_ok-append.ensures.ok
    c.split_class.ensures.front c.split_class.ensures.after
    c.in_ok-append_twice-in-Some.ensures.ok c.in-Some.ensures.chars
