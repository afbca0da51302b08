-- Lists that are made one after the other, beside those that they are made of.
use Rattle.std.proofs.Common.{◌≡◌, subst, ℕ, ◌+◌, ◌<◌, List, [], ◌∷◌, ◌++◌, drop, get_or, inl, inr}
use Rattle.std.proofs.Common.{length, map, refl, take}
use Rattle.std.proofs.lemmas.List.{at_drop_more, take-append-drop, take_more}
use Rattle.std.proofs.lemmas.Slice.Zip.{all_zipped_more}
use Rattle.std.specs.List.{AllZip}
use Rattle.catalogue.specs.Firsts.{IsFirstWithout}

-- what holds of things, place by place, holds of what they are made into
pub zip_mapped : {A B C D : Type 0} (f : A → C) (g : B → D) (R : C → D → Type 0) (xs : List A)
    (ys : List B) → AllZip (λ x y. R (f x) (g y)) xs ys → AllZip R (map f xs) (map g ys)
zip_mapped f g R [] [] h = h
zip_mapped f g R [] (y ∷ ys) h = absurd h
zip_mapped f g R (x ∷ xs) [] h = absurd h
zip_mapped f g R (x ∷ xs) (y ∷ ys) h = (h.0, zip_mapped f g R xs ys h.1)

module _ {A B C : Type 0} (f : A → B) (P : B → Type 0) (R : A → C → Type 0)
    (holds : (x : A) (y : C) → R x y → P (f x)) where
  -- the first without P is no other after some that have it
  first_after : (front rest : List A) (ys : List C) (first : B) → AllZip R front ys
      → IsFirstWithout P (map f rest) first → IsFirstWithout P (map f (front ++ rest)) first
  first_after [] rest ys first h is = is
  first_after (x ∷ xs) rest [] first h is = absurd h
  first_after (x ∷ xs) rest (y ∷ ys) first h is =
      inr (holds x y h.0, first_after xs rest ys first h.1 is)

  -- it is the one that is looked at, if all before it have P
  pub first_without : (xs : List A) (i : ℕ) (x : A) (ys : List C) → i < length xs
      → x ≡ get_or xs i x → AllZip R (take i xs) ys → ¬ P (f x)
      → IsFirstWithout P (map f xs) (f x)
  first_without xs i x ys within here h none =
      let rest : drop i xs ≡ x ∷ drop (i + 1) xs =
      let next = at_drop_more (λ l. l) xs i x within in cc in
      let split : take i xs ++ (x ∷ drop (i + 1) xs) ≡ xs =
      let whole = take-append-drop i xs in cc in
      subst (λ l. IsFirstWithout P (map f l) (f x)) split
      (first_after (take i xs) (x ∷ drop (i + 1) xs) ys (f x) h (inl (refl, none)))

-- one more of each list
pub zip_more : {A B : Type 0} (R : A → B → Type 0) (xs : List A) (i : ℕ) (x : A) (ys : List B)
    (y : B) → i < length xs → x ≡ get_or xs i x → AllZip R (take i xs) ys → R x y
    → AllZip R (take (i + 1) xs) (ys ++ (y ∷ []))
zip_more R xs i x ys y within here so_far more = rw (take_more xs i x within, ← here)
    (all_zipped_more R (take i xs) ys x y so_far more)
