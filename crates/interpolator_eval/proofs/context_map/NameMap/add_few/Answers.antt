use Rattle.std.proofs.Common.{arith, rules, ◌≡◌, ◌<◌, ◌++◌, ◌∷◌, [], length, string_bytes}
use Rattle.interpolator_eval.specs.NameNumbers.{guess_index, name_number, remade}
use Rattle.interpolator_eval.specs.declared.numbered.Numbered.{Numbered}
use Rattle.interpolator_eval.proofs.LoanLemmas.{few_in}
use Rattle.interpolator_eval.proofs.context_map.NameMap.add_few.Goals as goal

pub returns-clause-ok : goal.returns-clause-ok
returns-clause-ok g c =
    let map = c.args.self.now in
    let entry : Numbered g.row.T.Denot = record {
      number = c.number_of-number.result;
      name = c.args.name;
      value = c.default.result;
    } in
    let number : c.number_of-number.result ≡ name_number (string_bytes c.args.name) = search rules in
    let items : c.guess.new.self.few.items ≡ map.few.items ++ entry ∷ [] =
    grind (arith, c.guess.ensures.entries, c.in_ok-push.ensures.items) in
    let index : c.index_of_guess.result ≡ guess_index (name_number (string_bytes c.args.name)) =
    rw (← number) c.index_of_guess.ensures.index in
    let guesses : c.guess.new.self.guesses
    ≡ remade map.guesses (guess_index (name_number (string_bytes c.args.name)))
    (length map.few.items) =
    rw (← index) (search rules) in
    let long : c.index_of_guess.result < length map.guesses = search rules in
    few_in g.T.Default.is_default map c.guess.new.self entry number c.default.ensures
    c.requires.absent (omega (arith, c.requires.room)) (rw (← index) long)
    items c.guess.ensures.rest guesses
