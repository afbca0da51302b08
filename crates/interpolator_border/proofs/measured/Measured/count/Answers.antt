use Rattle.std.proofs.Common.{arith, refl}
use Rattle.interpolator_render.proofs.WrittenLemmas.{chars_nonempty, refuses_all}
use Rattle.interpolator_border.proofs.MeasureLemmas.{count_more}
use Rattle.interpolator_border.proofs.measured.Measured.count.Goals as goal

pub returns-then-has_refused : goal.returns-then-has_refused
returns-then-has_refused c = grind (arith, refuses_all, chars_nonempty)

pub invariant_of-self : goal.invariant_of-self
invariant_of-self c = let old = c.args.self.now in record {
  counted = λ some. grind (arith, count_more);
  whole = λ none. grind arith;
  over = λ some. refl;
  silent = λ set. refl;
}

pub returns-in-None : goal.returns-in-None
returns-in-None c = grind (arith, refuses_all, chars_nonempty)
