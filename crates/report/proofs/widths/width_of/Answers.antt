use Rattle.std.proofs.Common.{◌∙◌, refl, sym}
use Rattle.report.specs.Widths.{rises}
use Rattle.report.specs.declared.widths.TheConstants.{NONE, TWO}
use Rattle.report.proofs.WidthLemmas.{none_before}
use Rattle.report.proofs.widths.width_of.Goals as goal

pub is_within-requires : goal.is_within-requires
unfolding rises
is_within-requires c = refl

pub is_within-requires-2 : goal.is_within-requires-2
unfolding rises
is_within-requires-2 c = refl

pub returns-then-code-lt-FIRST : goal.returns-then-code-lt-FIRST
unfolding rises
returns-then-code-lt-FIRST c =
    let none = none_before NONE 0x300 c.args.c refl c.if-code-lt-FIRST.true in
    let two = none_before TWO 0x300 c.args.c refl c.if-code-lt-FIRST.true in rw (none, two) refl

pub returns-then-is_within : goal.returns-then-is_within
returns-then-is_within c = rw (sym c.is_within.ensures ∙ c.if-is_within.true) refl

pub returns-then-is_within-2 : goal.returns-then-is_within-2
returns-then-is_within-2 c =
    let none = sym c.is_within.ensures ∙ c.if-is_within.false in
    let two = sym c.is_within-2.ensures ∙ c.if-is_within-2.true in rw (none, two) refl

pub returns-else-is_within-2 : goal.returns-else-is_within-2
returns-else-is_within-2 c =
    let none = sym c.is_within.ensures ∙ c.if-is_within.false in
    let two = sym c.is_within-2.ensures ∙ c.if-is_within-2.false in rw (none, two) refl
