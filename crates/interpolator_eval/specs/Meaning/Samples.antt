-- What a name may stand for in a sample, which is an example of the contexts that a format will be
-- written with; and what those values lack.
use Rattle.std.specs.Prelude.{ℕ, zero, suc, Bool, true, false, ◌||◌, is_some, not, Option, Some}
use Rattle.std.specs.Prelude.{None, List, [], ◌∷◌, map, flat_map, option_map, unwrap_or}
use Rattle.std.specs.List.{list_any}
use Rattle.interpolator_render.specs.declared.view.Trait.TheVariants.{Debug, Display, Iter}
use Rattle.interpolator_render.specs.declared.view.Trait.TheVariants.{LowerExp, UpperExp}
use Rattle.interpolator_render.specs.Texts.{ViewText, has_no_text, has_failed, view_text}
use Rattle.interpolator_render.specs.Views.{Shown, signed_number, unsigned_number, truth_value}
use Rattle.interpolator_render.specs.Views.{decimal_number, float_number, one_character, some_text}
use Rattle.interpolator_render.specs.Views.{plain_text, nothing_implemented, failure}
use Rattle.interpolator_render.specs.{declared.view.Trait.Trait, declared.view.Spec.Spec}
use Rattle.interpolator_eval.specs.Slots.{Slots, slots_of, values_of, items, slot_at}
use Rattle.interpolator_eval.specs.declared.evaluate.sample.Candidates.TheVariants.{One, Each}
use Rattle.interpolator_eval.specs.declared.evaluate.sample.Candidates.{Candidates}
use Rattle.interpolator_eval.specs.declared.{evaluate.sample.Items.Items, evaluate.need.Need.Need}
use Rattle.interpolator_eval.specs.declared.evaluate.need.Need.TheVariants as needs
use Rattle.interpolator_eval.specs.declared.evaluate.sample.SampleEnvironment.{SampleEnvironment}

-- what the sample has under a name and, in an item format, what the item may be: any item of the
-- sample's lists
pub record Sample (X : Type 0) : Type 0 where
  pub gives : List ℕ → Option (Slots X)
  pub each : Option (List (Slots X))

module _ {X : Type 0} where
  -- one thing alone
  abbrev pub alone : Slots X → List (Slots X)
  alone found = found ∷ []

  -- the empty name may stand for any of these, if they are what the item may be
  abbrev pub each_or : Option (List (Slots X)) → (List ℕ → Option (List (Slots X))) → List ℕ
      → Option (List (Slots X))
  each_or (Some ts) others [] = Some ts
  each_or (Some ts) others (c ∷ cs) = others (c ∷ cs)
  each_or None others name = others name

  -- everything that a name may stand for, if it stands for anything
  abbrev pub candidates_under : Sample X → List ℕ → Option (List (Slots X))
  candidates_under s name = each_or s.each (λ other. option_map alone (s.gives other)) name

  -- the items of a tree, or none if it has no list
  abbrev pub items_or_none : Slots X → List (Slots X)
  items_or_none found = unwrap_or (items found) []

  -- the items of all of these
  abbrev pub items_of_all : List (Slots X) → List (Slots X)
  items_of_all ts = flat_map items_or_none ts

  -- a context as a sample
  abbrev pub sample : (List ℕ → Option (Slots X)) → Sample X
  sample finds = record { gives = finds; each = None }

  -- a sample in an item format, in which the item may be any of these
  abbrev pub bind_each : Sample X → List (Slots X) → Sample X
  bind_each s ts = record { gives = s.gives; each = Some ts }

  -- the tree has no list
  abbrev pub has_no_list : Slots X → Bool
  has_no_list found = not (is_some (items found))

-- a text is missing
abbrev pub is_missing : ViewText → Bool
is_missing has_no_text = true
is_missing _ = false

-- a value failed
abbrev pub is_failed : ViewText → Bool
is_failed has_failed = true
is_failed _ = false

-- a text is missing, or the value failed
abbrev pub is_hidden : ViewText → Bool
is_hidden text = is_missing text || is_failed text

-- no number is written under a trait
abbrev pub is_for_no_number : Trait → Bool
is_for_no_number Iter = true
is_for_no_number _ = false

-- no truth value, character or text is written under a trait
abbrev pub is_for_numbers : Trait → Bool
is_for_numbers Display = false
is_for_numbers Debug = false
is_for_numbers _ = true

-- no decimal and no float is written under a trait
abbrev pub is_not_for_decimals : Trait → Bool
is_not_for_decimals Display = false
is_not_for_decimals Debug = false
is_not_for_decimals LowerExp = false
is_not_for_decimals UpperExp = false
is_not_for_decimals _ = true

-- a value shows nothing under a trait, although it did not fail
abbrev pub shows_nothing : Shown → Trait → Bool
shows_nothing (signed_number number bits) t = is_for_no_number t
shows_nothing (unsigned_number number) t = is_for_no_number t
shows_nothing (truth_value truth) t = is_for_numbers t
shows_nothing (decimal_number units scale) t = is_not_for_decimals t
shows_nothing (float_number format x) t = is_not_for_decimals t
shows_nothing (one_character c) t = is_for_numbers t
shows_nothing (some_text text) t = is_for_numbers t
shows_nothing (plain_text text) t = false
shows_nothing nothing_implemented t = true
shows_nothing failure t = false

-- a value failed
abbrev pub is_failure : Shown → Bool
is_failure failure = true
is_failure _ = false

module _ {X : Type 0} (shows : X → Trait → Spec → Shown) where
  -- the text of the value in a slot, or none if the slot is empty
  abbrev pub slot_text : Trait → Spec → Option X → ViewText
  slot_text t spec None = has_no_text
  slot_text t spec (Some x) = view_text (shows x t spec) t spec

  -- the text of a tree under a trait
  abbrev pub text_under : Trait → Spec → Slots X → ViewText
  text_under t spec found = slot_text t spec (slot_at t (values_of found))

  -- some of these have no text under a trait
  abbrev pub some_missing : Trait → Spec → List (Slots X) → Bool
  some_missing t spec ts = list_any (λ x. is_missing (text_under t spec x)) ts

  -- some of these fail under a trait
  abbrev pub some_failed : Trait → Spec → List (Slots X) → Bool
  some_failed t spec ts = list_any (λ x. is_failed (text_under t spec x)) ts

  -- a tree has no text under a trait, or fails under it
  abbrev pub hidden : Trait → Spec → Slots X → Bool
  hidden t spec found = is_hidden (text_under t spec found)

  -- something is found, and each of these has a text under a trait and does not fail
  abbrev pub all_shown : Trait → Spec → Option (List (Slots X)) → Bool
  all_shown t spec None = false
  all_shown t spec (Some ts) = not (list_any (hidden t spec) ts)

  -- ---- in the code

  -- a tree lacks what is needed
  abbrev pub lacks : Need → Slots X → Bool
  lacks (needs.Text t spec) found = is_missing (text_under t spec.now found)
  lacks (needs.Success t spec) found = is_failed (text_under t spec.now found)
  lacks (needs.Shown t spec) found = hidden t spec.now found
  lacks needs.List found = has_no_list found

module _ {X : Type 0} where
  -- the trees that are `level` levels below a tree
  abbrev pub at_level : (level : ℕ) → Slots X → List (Slots X)
  at_level zero found = alone found
  at_level (suc level) found = flat_map (at_level level) (items_or_none found)

  -- the trees that are as deep below some items as `level` says
  abbrev pub items_below : Items X → List (Slots X)
  items_below below = flat_map (at_level below.level) (map slots_of below.items.now)

  -- what a name may stand for
  abbrev pub candidates_of : Candidates X → List (Slots X)
  candidates_of (One found) = alone (slots_of found)
  candidates_of (Each below) = items_below below

  -- how deep the candidates are
  abbrev pub level_of_candidates : Candidates X → ℕ
  level_of_candidates (One found) = 0
  level_of_candidates (Each below) = below.level

  -- how deep an item may be
  abbrev pub level_of : Option (Items X) → ℕ
  level_of None = 0
  level_of (Some below) = below.level

-- the sample that an environment stands for
abbrev pub sample_of : {C X : Type 0} → (C → List ℕ → Option (Slots X)) → SampleEnvironment C X → Sample X
sample_of finds s =
    record { gives = finds s.context.now; each = option_map items_below s.each }

-- how deep an item may be in an environment
abbrev pub level_in : {C X : Type 0} → SampleEnvironment C X → ℕ
level_in s = level_of s.each

-- how deep items are
abbrev pub level_of_items : {X : Type 0} → Items X → ℕ
level_of_items below = below.level
