use Rattle.std.proofs.Common.{arith, length, refl, rules, sym, ap, ◌≡◌, ◌≤◌, ◌<◌, chars}
use Rattle.std.specs.Option.{option_copied_mut, option_map}
use Rattle.std.proofs.lemmas.Str.{encodes-chars}
use Rattle.interpolator_eval.specs.NameMaps.{under}
use Rattle.interpolator_eval.specs.NameNumbers.{is_of, guess_for, guessed_place}
use Rattle.interpolator_eval.proofs.GuessLemmas.{chosen_is, chosen_none}
use Rattle.interpolator_eval.proofs.LoanLemmas.{lent_in, lent_few}
use Rattle.interpolator_eval.proofs.context_map.NameMap.lend.Goals as goal

pub returns-then-place-len : goal.returns-then-place-len
returns-then-place-len g c =
    let map = c.args.self.now in
    let few = map.few.items in
    let place = c.place_of-place.result in
    let bytes = c.args.name.now in
    let guess = guess_for map.guesses bytes in
    let spelt = encodes-chars bytes c.utf8.name in
    let entry = c.index_mut.result.now in
    let at : place ≡ guessed_place (is_of bytes) few guess = search rules in
    let within : place < length few = search rules in
    let found = chosen_is (is_of bytes) few guess place entry at within c.index_mut.ensures.value in (
      (
        refl,
        λ last. lent_few map _ (chars bytes) bytes place entry last (sym spelt) at within
            c.index_mut.ensures.value refl refl refl,
        grind arith,
      ),
      rw (spelt, found) refl,
    )

pub returns : goal.returns
returns g c =
    let map = c.args.self.now in
    let few = map.few.items in
    let bytes = c.args.name.now in
    let name = chars bytes in
    let guess = guess_for map.guesses bytes in
    let spelt = encodes-chars bytes c.utf8.name in
    let past : length few ≤ guessed_place (is_of bytes) few guess = search rules in
    let none = chosen_none (is_of bytes) few guess past in
    let value : option_copied_mut c.get_mut.result ≡ under map name =
    rw (spelt, none) c.get_mut.ensures.value in (
      (
        refl,
        λ last. lent_in map _ c.get_mut.result name bytes last (sym spelt)
            (ap (option_map (λ entry. entry.value)) none) refl refl value
            (c.get_mut.follows.holds last),
        grind arith,
      ),
      value,
    )
