-- The last of some named values stands for what the last of the pairs does that they are.
use Rattle.std.proofs.Common.{◌≡◌, refl, sym, arith, ℕ, Bool, List, [], ◌∷◌, map, reverse, Option}
use Rattle.std.proofs.lemmas.List.{map-append, reverse-append}
use Rattle.std.specs.{List.find, Option.option_map, Str.bytes_eq}
use Rattle.interpolator_eval.specs.Contexts.{last_under}
use Rattle.interpolator.specs.NamedValues.{named_slots, pair_of}
use Rattle.interpolator.specs.declared.values.NamedValue.{NamedValue}

module _ {A B : Type 0} (f : A → B) where
  reversed : (xs : List A) → reverse (map f xs) ≡ map f (reverse xs)
  reversed [] = refl
  reversed (x ∷ xs) =
      rw (reverse-append (f x ∷ []) (map f xs), reversed xs, reverse-append (x ∷ []) xs)
      (sym (map-append f (reverse xs) (x ∷ [])))

  found : (test : B → Bool) (xs : List A)
      → find test (map f xs) ≡ option_map f (find (λ x. test (f x)) xs)
  found test [] = refl
  found test (x ∷ xs) = grind (arith, found test xs)

stands_for : (o : Option NamedValue)
    → option_map (λ pair. pair.1) (option_map pair_of o) ≡ option_map named_slots o
stands_for o = grind arith

pub last_pair : (values : List NamedValue) (name : List ℕ)
    → option_map named_slots (find (λ value. bytes_eq name value.name.now) (reverse values))
    ≡ last_under (map pair_of values) name
last_pair values name =
    rw (
      reversed pair_of values,
      found pair_of (λ pair. bytes_eq name pair.0.now) (reverse values),
      stands_for (find (λ value. bytes_eq name value.name.now) (reverse values)),
    ) refl
