-- What a list argument means, in the words of the laws: its padding, its width, its faults.
use Rattle.std.proofs.Common.{Option, ◌≡◌, ℕ, false, cond, List, [], ◌∷◌, ◌++◌, length, flat_map}
use Rattle.std.proofs.Common.{append_assoc, arith, refl, inl, inr, Some, None, max, replicate}
use Rattle.std.proofs.Common.{unwrap_or, append-nil}
use Rattle.std.proofs.lemmas.{Grind.common_steps, List.length-map, List.replicate-append-replicate}
use Rattle.interpolator_render.proofs.{LawLemmas.padded_text_count, NumberLemmas.before_within}
use Rattle.interpolator_render.specs.{declared.view.Trait.Trait, declared.view.Spec.Spec}
use Rattle.interpolator_render.specs.{Padding.fill_of, Padding.padded_text, Views.Shown}
use Rattle.interpolator_syntax.specs.{Places.Placed, Places.placed_at, Places.text_of}
use Rattle.interpolator_syntax.specs.{Arguments.Argument}
use Rattle.interpolator_syntax.specs.{Lists.ListRequest, Faults.Fault, Faults.parse, Faults.iter}
use Rattle.interpolator_eval.specs.Meaning.ListArguments.{FindsList, AllFinish, joined_texts}
use Rattle.interpolator_eval.specs.Meaning.ListArguments.{FirstFault, in_item, in_join}
use Rattle.interpolator_eval.specs.Meaning.ListArguments.{argument_meaning, items_alone}
use Rattle.interpolator_eval.specs.Meaning.Meanings.{Meaning, nothing, padded_list, items_mean}
use Rattle.interpolator_eval.specs.Meaning.Meanings.{fault_alone, forbids_list}
use Rattle.interpolator_eval.specs.{Slots.Slots, Meaning.Choices.chosen_items}
use Rattle.interpolator_eval.specs.Meaning.Environments.{Environment}

-- ---- padding

-- an empty text, padded, is copies of the fill alone
padded_nothing : (spec : Spec)
    → padded_text spec [] ≡ replicate (unwrap_or spec.width 0) (fill_of spec)
unfolding padded_text
padded_nothing spec = grind (arith, before_within, replicate-append-replicate)

-- no text, made whole or not, is as many copies of the fill as the width says
nothing_padded :
    (spec : Spec) (q : ℕ)
    → (padded_list spec q nothing).text
    ≡ placed_at q (replicate (unwrap_or spec.width 0) (fill_of spec))
nothing_padded spec q = grind (arith, padded_nothing)

-- ---- the items in order

module _ {A : Type 0} (join : Meaning) (item : A → Meaning) where
  abbrev after_join : A → Placed
  after_join y = join.text ++ (item y).text

  -- the join and the texts of a list that is not empty
  texts_after :
      (front : List A) (z : A)
      → join.text ++ joined_texts join item (front ++ (z ∷ []))
      ≡ flat_map after_join (front ++ (z ∷ []))
  texts_after front z = grind (arith, common_steps, append_assoc, flat_map)

  pub items_finish :
      (xs : List A) → (items_mean join item xs).fault ≡ None
      → AllFinish join item xs × ((items_mean join item xs).text ≡ joined_texts join item xs)
  items_finish [] h = (tt, refl)
  items_finish (x ∷ xs) h = grind (arith, append_assoc, flat_map, items_finish xs)

  -- with a second item the join is written too
  pub join_finishes :
      (x y : A) (more : List A) → (items_mean join item (x ∷ y ∷ more)).fault ≡ None
      → join.fault ≡ None
  join_finishes x y more h = grind arith

  -- the first fault of some items
  module _ (x : A) (f : Fault) where
    fails_first : (xs : List A) → (item x).fault ≡ Some f
        → FirstFault join item (x ∷ xs) f (items_mean join item (x ∷ xs)).text
    fails_first xs i = in_item [] x xs refl tt (inl refl) i (grind (arith, append-nil))

    fails_joined : (y : A) (ys : List A) → (item x).fault ≡ None → join.fault ≡ Some f
        → FirstFault join item (x ∷ y ∷ ys) f (items_mean join item (x ∷ y ∷ ys)).text
    fails_joined y ys i j = in_join x y ys refl i j (grind arith)

    fails_later : (y : A) (ys : List A) → (item x).fault ≡ None → join.fault ≡ None
        → FirstFault join item (y ∷ ys) f (items_mean join item (y ∷ ys)).text
        → FirstFault join item (x ∷ y ∷ ys) f (items_mean join item (x ∷ y ∷ ys)).text
    fails_later y ys i j (in_item front z back split finish none fails is) =
        in_item (x ∷ front) z back (cc) (i, finish) (inr j) fails
        (rw (i, j, is, texts_after front z) refl)
    fails_later y ys i j (in_join z w back split none fails is) = absurd (cc)

  pub items_fail :
      (xs : List A) (f : Fault) → (items_mean join item xs).fault ≡ Some f
      → FirstFault join item xs f (items_mean join item xs).text
  items_fail [] f h = absurd (cc)
  items_fail (x ∷ []) f h = fails_first x f [] (grind arith)
  items_fail (x ∷ y ∷ ys) f h =
      by_faults (items_fail (y ∷ ys) f) (item x).fault join.fault refl refl
    where
      by_faults : ((items_mean join item (y ∷ ys)).fault ≡ Some f
          → FirstFault join item (y ∷ ys) f (items_mean join item (y ∷ ys)).text)
          → (o p : Option Fault) → (item x).fault ≡ o → join.fault ≡ p
          → FirstFault join item (x ∷ y ∷ ys) f (items_mean join item (x ∷ y ∷ ys)).text
      by_faults rest (Some g) p i j = fails_first x f (y ∷ ys) (grind arith)
      by_faults rest None (Some g) i j = fails_joined x f y ys i (grind arith)
      by_faults rest None None i j = fails_later x f y ys i j (rest (grind arith))

-- ---- list arguments

-- a list that may be written, before it is padded, under a spec
abbrev of_list_means : Spec → (q : ℕ) → Meaning → Meaning
of_list_means spec q m =
    cond (forbids_list spec) (fault_alone (parse (iter q))) (padded_list spec q m)

module _ {X : Type 0} (shows : X → Trait → Spec → Shown) (e : Environment X) (start q : ℕ)
    (x : Argument) (l : ListRequest) (ts : List (Slots X)) (f : FindsList e x l ts) where
  abbrev Means : Meaning
  Means = argument_meaning shows e start x q

  list_is : Means ≡ of_list_means x.spec q (items_alone shows e l q ts)
  list_is = grind arith

  -- ---- no item

  module _ (none : chosen_items l.range ts ≡ []) where
    unpadded_is : items_alone shows e l q ts ≡ nothing
    unpadded_is = grind arith

    pub empty_text : Means.fault ≡ None
        → Means.text ≡ placed_at q (replicate (unwrap_or x.spec.width 0) (fill_of x.spec))
    empty_text h = grind (arith, list_is, unpadded_is, nothing_padded)

    pub empty_fault : Means.fault ≡ cond (forbids_list x.spec) (Some (parse (iter q))) None
    empty_fault = grind (arith, list_is, unpadded_is)

  -- ---- a width

  module _ (width : ℕ) (wide : x.spec.width ≡ Some width) where
    pub wide_text : Means.fault ≡ None
        → Means.text ≡ placed_at q (padded_text x.spec (text_of (items_alone shows e l q ts).text))
    wide_text h = grind (arith, list_is)

    pub wide_count : Means.fault ≡ None
        → length Means.text ≡ max width (length (items_alone shows e l q ts).text)
    wide_count h = grind (arith, wide_text, length-map, padded_text_count)

    pub wide_fault : (d : Fault) → forbids_list x.spec ≡ false
        → (items_alone shows e l q ts).fault ≡ Some d
        → (Means.text ≡ []) × (Means.fault ≡ Some d)
    wide_fault d h k = grind (arith, list_is)

  -- ---- no width

  pub narrow : forbids_list x.spec ≡ false → x.spec.width ≡ None
      → Means ≡ items_alone shows e l q ts
  narrow h k = grind (arith, list_is)
