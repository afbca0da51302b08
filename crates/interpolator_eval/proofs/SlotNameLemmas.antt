-- The text of the filled slots' names, while they are written one by one.
use Rattle.std.proofs.Common.{◌≡◌, refl, arith, ℕ, ◌+◌, ◌<◌, List, [], ◌∷◌, ◌++◌, append_assoc}
use Rattle.std.proofs.Common.{append-nil, get_or, take, map, Bool, true, false, filter, codes}
use Rattle.std.proofs.Output.{has_written_styled_append, has_written_styled_of_eq}
use Rattle.std.proofs.lemmas.List.{take_more, map-append}
use Rattle.std.proofs.{lemmas.List.Concat.flat_map-append, lemmas.List.Elements.filter-append}
use Rattle.std.specs.Fmt.{HasWrittenStyled, IsFlush}
use Rattle.std.specs.{List.join_by, declared.fmt.Formatter.Formatter}
use Rattle.interpolator_render.specs.declared.{view.Trait.Trait, view.Trait.TheVariants.Binary}
use Rattle.interpolator_eval.specs.SlotNames.{slot_name, slot_order, name_after, in_parentheses}

-- the names so far, with no closing parenthesis yet
abbrev pub opened : List (List ℕ) → List ℕ
opened [] = []
opened (name ∷ names) = codes "(" ++ join_by (λ part. part) (codes ", ") (name ∷ names)

-- there is no name so far
abbrev pub no_name : List (List ℕ) → Bool
no_name [] = true
no_name (name ∷ names) = false

-- the names of those of these slots that are filled
abbrev pub names_of : (Trait → Bool) → List Trait → List (List ℕ)
names_of filled slots = map slot_name (filter filled slots)

pub opened-more : (names : List (List ℕ)) (name : List ℕ)
    → opened (names ++ name ∷ []) ≡ opened names ++ name_after (no_name names) name
opened-more names name = grind (arith, append-nil, flat_map-append, append_assoc)

pub no_name-more : (names : List (List ℕ)) (name : List ℕ) → no_name (names ++ name ∷ []) ≡ false
no_name-more [] name = refl
no_name-more (first ∷ names) name = refl

module _ (filled : Trait → Bool) (index : ℕ) (below : index < 9) where
  next_names : names_of filled (take (index + 1) slot_order)
      ≡ names_of filled (take index slot_order)
      ++ names_of filled (get_or slot_order index Binary ∷ [])
  next_names =
      rw (take_more slot_order index Binary below, filter-append) (map-append slot_name _ _)

  -- the name of a slot that is filled comes after the names so far
  pub one_more : filled (get_or slot_order index Binary) ≡ true
      → names_of filled (take (index + 1) slot_order)
      ≡ names_of filled (take index slot_order) ++ slot_name (get_or slot_order index Binary) ∷
      []
  one_more passes = rw passes at next_names

  -- a slot that is empty changes no name
  pub none_more : filled (get_or slot_order index Binary) ≡ false
      → names_of filled (take (index + 1) slot_order) ≡ names_of filled (take index slot_order)
  none_more fails = grind (arith, next_names, append-nil)

-- the names that are all written, and the parenthesis after them
pub closed : (front : List ℕ) (names : List (List ℕ)) → no_name names ≡ false
    → (front ++ opened names) ++ codes ")" ≡ front ++ in_parentheses names
closed front names is = grind (arith, append_assoc)

module _ {W : Type 0} (took : W → List ℕ → W → Type 0) where
  -- a text that is written after another
  pub written_after : (f g h : Formatter W) (a b all : List ℕ) → HasWrittenStyled took f a g
      → (IsFlush g → true ≡ true → HasWrittenStyled took g b h) → a ++ b ≡ all
      → HasWrittenStyled took f all h
  written_after f g h a b all before after is =
      grind (arith, has_written_styled_of_eq, has_written_styled_append)

  -- a name that is written after the names so far
  pub name_written : (f g h : Formatter W) (front : List ℕ) (names : List (List ℕ))
      (name shown : List ℕ) (is_first : Bool)
      → is_first ≡ no_name names → shown ≡ name → HasWrittenStyled took f (front ++ opened names) g
      → (IsFlush g → true ≡ true → HasWrittenStyled took g (name_after is_first shown) h)
      → HasWrittenStyled took f (front ++ opened (names ++ name ∷ [])) h
  name_written f g h front names name shown is_first e same before after =
      grind (arith, append_assoc, opened-more, written_after)
