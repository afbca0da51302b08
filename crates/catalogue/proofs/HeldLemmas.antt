-- What values hold under names, and that values resemble the examples of what is declared.
use Rattle.std.proofs.Common.{◌≡◌, ◌∙◌, refl, ap, arith, ℕ, Bool, true, cond, List, [], ◌∷◌, None}
use Rattle.std.proofs.Common.{Option, Some, map, reverse}
use Rattle.std.proofs.lemmas.List.Elements.{All-head, All-tail}
use Rattle.std.proofs.{lemmas.List.reverse-append, lemmas.List.Folds.find-append}
use mathlib.Core.Path.{fun_ext}
use Rattle.std.specs.List.{All, AllZip, find}
use Rattle.std.specs.{Borrow.Bor, Option.option_or, Prelude.⊤, Str.bytes_eq, Str.encode_utf8_all}
use Rattle.interpolator.specs.Meaning.Resembling.{Resembles, ResemblesFound}
use Rattle.interpolator.specs.{Contexts.found_by_pairs, declared.Formattable.Formattable}
use Rattle.interpolator.specs.declared.View.{View}
use Rattle.catalogue.specs.Entries.{Held, found_by, held_by_pair}
use Rattle.catalogue.specs.Examples.{view_shows}

-- the last that passes a test is one of the rest, or else the first
last_or : {A : Type 0} (p : A → Bool) (x : A) (xs : List A)
    → find p (reverse (x ∷ xs)) ≡ option_or (find p (reverse xs)) (cond (p x) (Some x) None)
last_or p x xs = ap (find p) (reverse-append (x ∷ []) xs) ∙ find-append p (reverse xs) (x ∷ [])

-- it is as all are
pub last_holds : {A : Type 0} (p : A → Bool) (P : A → Type 0) (xs : List A) (x : A) → All P xs
    → find p (reverse xs) ≡ Some x → (p x ≡ true) × P x
last_holds p P [] x h e = absurd (cc)
last_holds p P (y ∷ ys) x h e = grind (
  arith,
  last_or p y ys,
  All-head P y ys h,
  last_holds p P ys x (All-tail P y ys h),
)

-- pairs find what they hold
each_held : (name : List ℕ) (pairs : List (Bor (List ℕ) × Formattable View))
    → found_by_pairs pairs name ≡ found_by (map held_by_pair pairs) name
each_held name [] = refl
each_held name (p ∷ ps) =
    let of_pair = λ (pair : Bor (List ℕ) × Formattable View).
    bytes_eq (encode_utf8_all name) pair.0.now in
    let of_held = λ (one : Held). bytes_eq (encode_utf8_all name) one.0 in
    grind (
      arith,
      last_or of_pair p ps,
      last_or of_held (held_by_pair p) (map held_by_pair ps),
      each_held name ps,
    )

pub found_held : (pairs : List (Bor (List ℕ) × Formattable View))
    → found_by_pairs pairs ≡ found_by (map held_by_pair pairs)
found_held pairs = fun_ext (λ name. each_held name pairs)

-- one thing resembles another of the same name
abbrev pub IsLike : Held → Held → Type 0
IsLike one example = (one.0 ≡ example.0) × Resembles view_shows view_shows one.1 example.1

-- both are there, or none
abbrev Alike : Option Held → Option Held → Type 0
Alike None None = ⊤
Alike (Some one) (Some example) = Resembles view_shows view_shows one.1 example.1
Alike _ _ = ⊥

-- so the last things of a name are
last_alike : (name : List ℕ) (held examples : List Held) → AllZip IsLike held examples
    → Alike (find (λ one. bytes_eq name one.0) (reverse held))
    (find (λ one. bytes_eq name one.0) (reverse examples))
last_alike name [] [] h = h
last_alike name [] (e ∷ es) h = absurd h
last_alike name (x ∷ xs) [] h = absurd h
last_alike name (x ∷ xs) (e ∷ es) h =
    let named = λ (one : Held). bytes_eq name one.0 in
    let rest = last_alike name xs es h.1 in
    grind (arith, last_or named x xs, last_or named e es, h.0.0, h.0.1, rest)

-- what is found of things resembles what is found of their examples
pub found_alike : (held examples : List Held) (name : List ℕ) → AllZip IsLike held examples
    → ResemblesFound view_shows view_shows (found_by held name) (found_by examples name)
found_alike held examples name h =
    grind (arith, last_alike (encode_utf8_all name) held examples h)
