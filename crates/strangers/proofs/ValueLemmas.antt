-- Which values of words are let through, and which word is rejected first.
use Rattle.std.proofs.Common.{◌≡◌, refl, ℕ, ◌+◌, ◌<◌, ◌≤◌, arith, List, drop, length, get_or, max}
use Rattle.std.proofs.Common.{None, Ok, Err, Result}
use Rattle.std.proofs.{lemmas.Bool.Decides.nat_tests, lemmas.List.drop_more}
use Rattle.std.specs.{Option.option_or, Prelude.OnOk}
use Rattle.interpolator.specs.declared.Limits.{Limits}
use Rattle.strangers.specs.Serving.{given_why, value_why, words_why}
use Rattle.strangers.specs.Values.{characters_of, longest_of}
use Rattle.strangers.specs.{declared.serving.Count.Count, declared.serving.Refused.Refused}
use Rattle.strangers.specs.{declared.values.Datum.Datum, declared.values.Word.Word}

-- a count that is not rejected is within its limit
pub let_through : (count : Count) (reported limit : ℕ) → value_why count reported limit ≡ None → reported ≤ limit
let_through count reported limit h = grind (arith, nat_tests, h)

-- what holds, holds of a success
pub on_ok : {P : Type 0} (result : Result (Unit {0}) Refused) → P → OnOk result P
on_ok (Ok _) h = h
on_ok (Err refused) h = tt

-- the longest of some values and the next one, beside the values from there on
pub longest_next : (values : List Datum) (i : ℕ) (d : Datum) (longest counted new : ℕ)
    → i < length values → max longest (longest_of (drop i values)) ≡ longest_of values
    → counted ≡ characters_of (get_or values i d) → new ≡ max longest counted
    → max new (longest_of (drop (i + 1) values)) ≡ longest_of values
longest_next values i d longest counted new within so_far this greater =
    let all = rw (drop_more values i d within) at so_far in omega (arith, all, this, greater)

-- words are rejected for the next one, or else for those after it
pub words_next : (limits : Limits) (words : List Word) (i : ℕ) (word : Word) → i < length words
    → word ≡ get_or words i word → words_why limits (drop i words)
    ≡ option_or (given_why limits word.given) (words_why limits (drop (i + 1) words))
words_next limits words i word within here = rw (drop_more words i word within, ← here) refl
