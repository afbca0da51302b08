use Rattle.std.proofs.Common.{◌≡◌, ◌∙◌, ap, refl, rules}
use Rattle.std.proofs.lemmas.Int.{to_z-of_z}
use Rattle.std.specs.{Int.w128, Prelude.FitsSigned}
use Rattle.words.specs.{Items.texts_of, Words.float}
use Rattle.words.proofs.PartLemmas.{bad_is_not_good}
use Rattle.strangers.specs.{Words.are_texts, declared.values.Datum.TheVariants.Number}
use Rattle.strangers.specs.declared.values.Given.TheVariants.{One}
use Rattle.strangers.proofs.reading.word_of.Goals as goal

pub returns-in-Bad : goal.returns-in-Bad
returns-in-Bad c good =
    bad_is_not_good c.args.word.now (rw c.in-Bad.is at c.classify.ensures) (good.0, good.1)

pub returns-in-Float : goal.returns-in-Float
returns-in-Float c good =
    let same = ((rw c.in-Float.is at c.classify.ensures) good.0).0 good.1 in
    let is : good.0 ≡ float c.in-Float.name.now c.in-Float.value = cc in
    rw is at good.2

pub returns-in-Text : goal.returns-in-Text
returns-in-Text c =
    let made = c.single.ensures in
    (_, ((rw c.in-Text.is at c.classify.ensures) _).1 refl, (made.name, rw made.given refl))

pub returns-in-Number : goal.returns-in-Number
returns-in-Number c =
    let made = c.single-in-Number.ensures in
    let fits : FitsSigned w128 c.in-Number.value = search rules in
    let value = ap (λ v. One (Number v)) (to_z-of_z w128 c.in-Number.value fits) in
    (_, ((rw c.in-Number.is at c.classify.ensures) _).1 refl, (made.name, made.given ∙ value))

pub returns-in-Decimal : goal.returns-in-Decimal
returns-in-Decimal c =
    let made = c.single-in-Decimal.ensures in
    (_, ((rw c.in-Decimal.is at c.classify.ensures) _).1 refl, (made.name, made.given))

pub returns-in_ok-values_of-in-List : goal.returns-in_ok-values_of-in-List
returns-in_ok-values_of-in-List c =
    let items = ap texts_of c.as_slice.ensures.value ∙ c.in_ok-texts-in-List.ensures.ok in
    let values = c.in_ok-values_of-in-List.ensures ∙ ap are_texts items in
    (_, ((rw c.in-List.is at c.classify.ensures) _).1 refl, (refl, values))
