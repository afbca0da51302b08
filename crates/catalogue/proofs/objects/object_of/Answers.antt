use Rattle.std.proofs.Common.{◌≡◌, arith, refl, rules, ℤ, pos, negsuc, nat_lt, true}
use Rattle.std.proofs.lemmas.Int.{ints, to_z-of_z}
use Rattle.std.specs.{Int.w128, Prelude.FitsSigned}
use Rattle.interpolator.specs.{Views.fits_signed, declared.Bits.TheVariants.B128}
use Rattle.words.proofs.PartLemmas.{bad_is_not_good}
use Rattle.catalogue.proofs.objects.object_of.Goals as goal

-- a number of 128 bits is in its range
in_range : (v : ℤ) → FitsSigned w128 v → fits_signed v B128 ≡ true
in_range (pos n) fits = grind (arith, ints, nat_lt)
in_range (negsuc n) fits = grind (arith, ints, nat_lt)

pub returns-in-Bad-clause-given : goal.returns-in-Bad-clause-given
returns-in-Bad-clause-given c =
    bad_is_not_good c.args.word.now (rw c.in-Bad.is at c.classify.ensures)

pub returns-in-Text-clause-given : goal.returns-in-Text-clause-given
returns-in-Text-clause-given c =
    (_, ((rw c.in-Text.is at c.classify.ensures) _).1 refl, c.single.ensures)

pub returns-in-Number-clause-given : goal.returns-in-Number-clause-given
returns-in-Number-clause-given c =
    let fits : FitsSigned w128 c.in-Number.value = search rules in
    let whole = in_range c.in-Number.value fits in
    let given = rw (to_z-of_z w128 c.in-Number.value fits, whole) at c.single-in-Number.ensures in
    (_, ((rw c.in-Number.is at c.classify.ensures) _).1 refl, given)

pub returns-in-Decimal-clause-given : goal.returns-in-Decimal-clause-given
returns-in-Decimal-clause-given c =
    let units = c.in-Decimal.value.units in
    let fits : FitsSigned w128 units = search rules in
    let given = rw (to_z-of_z w128 units fits) at c.single-in-Decimal.ensures in
    (_, ((rw c.in-Decimal.is at c.classify.ensures) _).1 refl, given)

pub returns-in-Float-clause-given : goal.returns-in-Float-clause-given
returns-in-Float-clause-given c =
    (_, ((rw c.in-Float.is at c.classify.ensures) _).1 refl, c.single-in-Float.ensures)

pub returns-in_ok-listed-in-List-clause-given : goal.returns-in_ok-listed-in-List-clause-given
returns-in_ok-listed-in-List-clause-given c =
    (_, ((rw c.in-List.is at c.classify.ensures) _).1 refl, c.in_ok-listed-in-List.ensures.listed)
