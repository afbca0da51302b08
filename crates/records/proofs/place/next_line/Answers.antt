use Rattle.std.proofs.Common.{◌++◌, ◌∷◌, [], append-nil, append_assoc, arith, refl}
use Rattle.std.proofs.lemmas.Str.Pattern.{split_once_first, split_parts}
use Rattle.records.proofs.PlaceLemmas.{none_after}
use Rattle.records.proofs.place.next_line.Goals as goal

pub returns-in-Some : goal.returns-in-Some
returns-in-Some c =
    let cases = c.split_once.ensures.cases in
    let first = split_once_first 10 c.args.text.now c.split_once.result cases (omega arith) in
    let parts = split_parts 10 c.args.text.now c.split_once.result cases (omega arith) in
    let at_first = rw c.in-Some.is at first in
    let at_parts = rw c.in-Some.is at parts in record {
      is = at_first.2;
      rest = (c.in-Some.field-0-0.now ++ (10 ∷ []), rw append_assoc at_parts.0);
    }

pub returns-in-None : goal.returns-in-None
returns-in-None c =
    let cases = c.split_once.ensures.cases in
    let first = split_once_first 10 c.args.text.now c.split_once.result cases (omega arith) in
    let at_first = rw c.in-None.is at first in record {
      is = none_after c.args.text.now at_first;
      rest = (c.args.text.now, rw append-nil refl);
    }
