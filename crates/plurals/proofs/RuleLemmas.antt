-- What a rule says is what is read of it.
use Rattle.std.proofs.Common.{◌≡◌, ◌∙◌, arith, refl, sym, ap, List, [], ◌∷◌, Result, Ok, Err, IfOk}
use Rattle.std.proofs.Common.{append-nil, map, ℕ}
use Rattle.plurals.specs.Readings.{Says, State, finish, step, steps, tree_at, tree_in, wants}
use Rattle.plurals.specs.Tokens.{Gives, Spot, Word, at, words_of, ◌>>=◌}
use Rattle.plurals.specs.Trees.{Tree, Writes, spelling, tree_of}
use Rattle.plurals.specs.{declared.expression.Expression.Expression, declared.fault.Fault.Fault}
use Rattle.plurals.specs.{declared.fault.ParseError.ParseError, declared.fault.Problem.Problem}
use Rattle.plurals.proofs.SoundLemmas.{all_words, written}
use Rattle.plurals.proofs.SpellingLemmas.{after, finishes, level_bounds, reads, runs}

abbrev words : List Spot → List Word
words spots = map (λ spot. spot.1) spots

-- what is read at places is read without them
ok_at : {A : Type 0} (place : ℕ) (r : Result A Problem) (x : A) → at place r ≡ Ok x → r ≡ Ok x
ok_at place (Ok y) x e = grind (arith, e)
ok_at place (Err problem) x e = absurd (cc)

-- after one word, and then the others
from_step : (place : ℕ) (spots : List Spot) (end : State) (r : Result State Problem)
    → at place r >>= (λ next. steps next spots) ≡ Ok end
    → ((next : State) → steps next spots ≡ Ok end → runs next (words spots) ≡ Ok end)
    → r >>= (λ next. runs next (words spots)) ≡ Ok end
from_step place spots end (Ok next) e more = more next e
from_step place spots end (Err problem) e more = absurd (cc)

to_runs : (spots : List Spot) (state end : State) → steps state spots ≡ Ok end
    → runs state (words spots) ≡ Ok end
to_runs [] state end e = let is : state ≡ end = cc in ap Ok is
to_runs (spot ∷ spots) state end e = from_step spot.0 spots end (step state spot.1) e
    (λ next. to_runs spots next end)

from_word : (place : ℕ) (spots : List Spot) (end : State) (r : Result State Problem)
    → r >>= (λ next. runs next (words spots)) ≡ Ok end
    → ((next : State) → runs next (words spots) ≡ Ok end → steps next spots ≡ Ok end)
    → at place r >>= (λ next. steps next spots) ≡ Ok end
from_word place spots end (Ok next) e more = more next e
from_word place spots end (Err problem) e more = absurd (cc)

from_runs : (spots : List Spot) (state end : State) → runs state (words spots) ≡ Ok end
    → steps state spots ≡ Ok end
from_runs [] state end e = let is : state ≡ end = cc in ap Ok is
from_runs (spot ∷ spots) state end e = from_word spot.0 spots end (step state spot.1) e
    (λ next. from_runs spots next end)

read_spots : (end : ℕ) (spots : List Spot) (tree : Tree) (r : Result State Fault)
    → steps (wants []) spots ≡ r → r >>= (λ state. at end (finish state)) ≡ Ok tree
    → Writes (words spots) tree
read_spots end spots tree (Err fault) s e = absurd (cc)
read_spots end spots tree (Ok state) s e =
    let all = all_words (words spots) (wants []) state tt (to_runs spots (wants []) state s) in
    let is = written state tree all.sound (ok_at end (finish state) tree e) in
    (sym all.same ∙ is.0, is.1)

read_rule : (rule : List ℕ) (tree : Tree) (end : ℕ) (r : Result (List Spot) Fault)
    → words_of rule ≡ r → r >>= tree_in end ≡ Ok tree → Says rule tree
read_rule rule tree end (Err fault) s e = absurd (cc)
read_rule rule tree end (Ok spots) s e = (spots, s, read_spots end spots tree _ refl e)

-- what is read of a rule is what it says
pub is_said : (rule : List ℕ) (tree : Tree) → tree_at rule ≡ Ok tree → Says rule tree
is_said rule tree e = read_rule rule tree _ _ refl e

-- and what it says is read
pub is_read : (rule : List ℕ) (tree : Tree) → Says rule tree → tree_at rule ≡ Ok tree
is_read rule tree (spots, said, writes) =
    let all : runs (wants []) (words spots) ≡ Ok (after [] tree) =
    rw writes.0 (ap (runs (wants [])) (sym (append-nil (spelling tree)))
    ∙ reads [] tree [] writes.1 (level_bounds tree).0) in
    let ends = from_runs spots (wants []) (after [] tree) all in
    rw (said, ends, finishes tree writes.1) refl

-- for what a function returned
pub said_by : (rule : List ℕ) (r : Result Expression ParseError) → Gives tree_of r (tree_at rule)
    → IfOk r (λ expression. Says rule (tree_of expression))
said_by rule (Ok expression) gives = is_said rule (tree_of expression) gives
said_by rule (Err e) gives = tt

pub read_by : (rule : List ℕ) (r : Result Expression ParseError) → Gives tree_of r (tree_at rule)
    → (tree : Tree) → Says rule tree → Gives tree_of r (Ok tree)
read_by rule r gives tree says = rw (is_read rule tree says) at gives
