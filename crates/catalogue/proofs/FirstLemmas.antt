-- What is left of a list, and the first of what some things give.
use Rattle.std.proofs.Common.{◌≡◌, ◌∙◌, ap, arith, refl, sym, ℕ, ◌+◌, ◌<◌, List, [], ◌∷◌, ◌++◌}
use Rattle.std.proofs.Common.{Bool, Option, Some, append_assoc, drop, filter, get_or, length, map}
use Rattle.std.proofs.lemmas.{List.at_drop_more, List.Elements.All-head, List.Elements.All-tail}
use Rattle.std.specs.{List.All, List.concat, Option.option_map, Option.option_or}
use Rattle.catalogue.specs.Forms.{first_given}

-- what is left begins with the one that is looked at
pub drop_item : {A B : Type 0} (g : A → B) (xs : List A) (i : ℕ) (x : A) → i < length xs
    → x ≡ get_or xs i x → map g (drop i xs) ≡ g x ∷ map g (drop (i + 1) xs)
drop_item g xs i x within here = at_drop_more (map g) xs i x within
    ∙ ap (λ y. g y ∷ map g (drop (i + 1) xs)) (sym here)

-- what was told and what is to be told of what is left, once one more is told of
pub reported_rest : {A : Type 0} (f : A → List ℕ) (x : A) (xs rest : List A)
    (reported more new all : List ℕ) → xs ≡ x ∷ rest → reported ++ concat (map f xs) ≡ all → more ≡ f x
    → new ≡ reported ++ more → new ++ concat (map f rest) ≡ all
reported_rest f x xs rest reported more new all split so_far one pushed =
    rw (pushed, one, append_assoc reported (f x) (concat (map f rest))) (rw split at so_far)

-- the first of what was found and of what is left, once one more is looked at
pub found_next : {A B C : Type 0} (f : A → B) (gives : C → Option B) (x : C) (xs rest : List C)
    (found one : Option A) (all : Option B) → xs ≡ x ∷ rest
    → option_or (option_map f found) (first_given gives xs) ≡ all → option_map f one ≡ gives x
    → option_or (option_map f (option_or found one)) (first_given gives rest) ≡ all
found_next f gives x xs rest found one all split so_far this =
    grind (arith, split, so_far, this)

-- the first that is given is as all are
pub given_holds : {A B : Type 0} (gives : A → Option B) (P : A → Type 0) (Q : B → Type 0)
    → ((x : A) (y : B) → P x → gives x ≡ Some y → Q y) → (xs : List A) (y : B) → All P xs
    → first_given gives xs ≡ Some y → Q y
given_holds gives P Q each [] y all e = absurd (cc)
given_holds gives P Q each (x ∷ xs) y all e = grind (
  arith,
  each x y (All-head P x xs all),
  given_holds gives P Q each xs y (All-tail P x xs all),
)

-- what is kept of things is what is kept of those that they are made of
pub filter_mapped : {A B : Type 0} (p : B → Bool) (f : A → B) (xs : List A)
    → filter p (map f xs) ≡ map f (filter (λ x. p (f x)) xs)
filter_mapped p f [] = refl
filter_mapped p f (x ∷ xs) = grind (arith, filter_mapped p f xs)
