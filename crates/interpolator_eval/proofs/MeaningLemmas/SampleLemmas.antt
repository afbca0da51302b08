-- What a name may stand for in a sample, and what those values lack.
use Rattle.std.proofs.Common.{rules, ◌≡◌, ◌∙◌, refl, sym, arith, ℕ, zero, suc, ◌+◌, true, false}
use Rattle.std.proofs.Common.{List, [], ◌∷◌, add-one, append-nil, flat_map}
use Rattle.std.proofs.{lemmas.Grind.flat_map-append, Math.Path.fun_ext}
use Rattle.std.proofs.lemmas.List.Concat.{flat_map-cons}
use Rattle.interpolator_render.specs.declared.view.Trait.TheVariants.{Debug, Display, Iter}
use Rattle.interpolator_render.specs.{Texts.view_text, Views.Shown, declared.view.Spec.Spec}
use Rattle.interpolator_render.specs.declared.view.Trait.{Trait}
use Rattle.interpolator_eval.specs.Slots.{Slots}
use Rattle.interpolator_eval.specs.Meaning.Samples.{is_missing, alone, items_or_none, items_of_all}
use Rattle.interpolator_eval.specs.Meaning.Samples.{is_failed, is_failure, at_level}
use Rattle.interpolator_eval.specs.Meaning.Samples.{is_for_no_number, is_for_numbers, shows_nothing}

-- ---- views that have no text

pub no_iter : (t : Trait) → ¬ (t ≡ Iter) → is_for_no_number t ≡ false
no_iter t n = grind arith

pub no_letters : (t : Trait) → ¬ (t ≡ Display) → ¬ (t ≡ Debug) → is_for_numbers t ≡ true
no_letters t n m = grind arith

-- this depends only on the kind of what is shown and on the trait
pub view_missing : (s : Shown) (t : Trait) (spec : Spec)
    → is_missing (view_text s t spec) ≡ shows_nothing s t
unfolding view_text
view_missing s t spec = grind arith

pub view_failed : (s : Shown) (t : Trait) (spec : Spec)
    → is_failed (view_text s t spec) ≡ is_failure s
unfolding view_text
view_failed s t spec = grind arith

-- ---- the values at a level below trees

flat_flat : {A B C : Type 0} (f : A → List B) (g : B → List C) (xs : List A)
    → flat_map g (flat_map f xs) ≡ flat_map (λ x. flat_map g (f x)) xs
flat_flat f g [] = refl
flat_flat f g (x ∷ xs) = grind (arith, flat_map-cons, flat_map-append, flat_flat f g xs)

flat_same : {A B : Type 0} (f g : A → List B) (xs : List A) → ((x : A) → f x ≡ g x)
    → flat_map f xs ≡ flat_map g xs
flat_same f g xs e = grind (arith, fun_ext)

module _ {X : Type 0} where
  pub at_no_level : (xs : List (Slots X)) → flat_map (at_level 0) xs ≡ xs
  at_no_level [] = refl
  at_no_level (x ∷ xs) = grind (arith, flat_map-cons, at_no_level xs)

  items_below_one : (k : ℕ) (found : Slots X)
      → items_of_all (at_level k found) ≡ at_level (suc k) found
  items_below_one zero found =
      flat_map-cons items_or_none found [] ∙ append-nil (items_or_none found)
      ∙ sym (at_no_level (items_or_none found))
  items_below_one (suc k) found =
      flat_flat (at_level k) items_or_none (items_or_none found)
      ∙ flat_same _ _ (items_or_none found) (items_below_one k)

  -- the items of the values at a level are one level deeper
  pub items_of_each : (k : ℕ) (xs : List (Slots X))
      → flat_map (at_level (k + 1)) xs ≡ items_of_all (flat_map (at_level k) xs)
  items_of_each k xs = search (rules, add-one, flat_flat, flat_same, items_below_one)

  pub items_of_one : (found : Slots X) → items_of_all (alone found) ≡ items_or_none found
  items_of_one found = grind (arith, flat_map-cons, append-nil)
