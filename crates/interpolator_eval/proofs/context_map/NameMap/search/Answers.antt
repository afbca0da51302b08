use Rattle.std.proofs.Common.{length, refl, rules, ◌≡◌, ◌≤◌, ◌<◌}
use Rattle.interpolator_eval.specs.NameNumbers.{is_of, guess_for, guessed_place}
use Rattle.interpolator_eval.proofs.GuessLemmas.{chosen_is, chosen_none}
use Rattle.interpolator_eval.proofs.context_map.NameMap.search.Goals as goal

pub returns-then-place-len : goal.returns-then-place-len
returns-then-place-len g c =
    let few = c.args.self.now.few.items in
    let place = c.searched_place-place.result in
    let name = c.args.name.now in
    let guess = guess_for c.args.self.now.guesses name in
    let at : place ≡ guessed_place (is_of name) few guess =
    rw c.requires.elsewhere (search rules) in
    let within : place < length few = search rules in
    let found = chosen_is (is_of name) few guess place c.index.result.now at within c.index.ensures in
    rw found refl

pub returns : goal.returns
returns g c =
    let few = c.args.self.now.few.items in
    let name = c.args.name.now in
    let guess = guess_for c.args.self.now.guesses name in
    let past : length few ≤ guessed_place (is_of name) few guess =
    rw c.requires.elsewhere (search rules) in
    let none = chosen_none (is_of name) few guess past in
    rw none c.get.ensures.value
