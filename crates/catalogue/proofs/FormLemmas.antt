-- Texts of which each is there once, and the first lines of keys, once one more is looked at.
use Rattle.std.proofs.Common.{◌≡◌, ap, arith, refl, sym, ℕ, List, [], ◌∷◌, ◌++◌, Bool, append_assoc}
use Rattle.std.proofs.Common.{filter, not, true, false}
use Rattle.std.proofs.{lemmas.List.Folds.list_any-append, lemmas.Slice.Eq.bytes_eq-Decides}
use Rattle.std.specs.{Option.option_or, Str.bytes_eq}
use Rattle.catalogue.specs.Lacks.{each_once, first_of, is_one_of, key_if_message, with_text}
use Rattle.catalogue.specs.{Files.Line, Keys.number_of, Keys.with_key, Lines.key_of}

-- nothing is there, so nothing is left out
all_kept : (texts : List (List ℕ)) → filter (λ x. not (is_one_of [] x)) texts ≡ texts
all_kept [] = refl
all_kept (x ∷ xs) = ap (λ ys. x ∷ ys) (all_kept xs)

-- texts of which each is there once, while none is
pub none_yet : (found texts : List (List ℕ)) → found ≡ []
    → found ++ filter (λ x. not (is_one_of found x)) texts ≡ texts
none_yet found texts none = rw none (all_kept texts)

-- what is equal to a text that is there, is there
same_there : (found : List (List ℕ)) (text x : List ℕ) → is_one_of found text ≡ true
    → bytes_eq text x ≡ true → is_one_of found x ≡ true
same_there found text x there same = rw (sym ((bytes_eq-Decides text x).0 same)) there

-- to leave out a text that is there already changes nothing
there_twice : (found : List (List ℕ)) (text : List ℕ) → is_one_of found text ≡ true
    → (xs : List (List ℕ)) → filter (λ x. not (is_one_of found x))
    (filter (λ x. not (bytes_eq text x)) xs) ≡ filter (λ x. not (is_one_of found x)) xs
there_twice found text there [] = refl
there_twice found text there (x ∷ xs) =
    grind (arith, there_twice found text there xs, same_there found text x there)

-- to leave out what is there and a text is to leave out what is there with the text
there_more : (found : List (List ℕ)) (text : List ℕ) (xs : List (List ℕ))
    → filter (λ x. not (is_one_of found x)) (filter (λ x. not (bytes_eq text x)) xs)
    ≡ filter (λ x. not (is_one_of (found ++ (text ∷ [])) x)) xs
there_more found text [] = refl
there_more found text (x ∷ xs) = grind (
  arith,
  there_more found text xs,
  list_any-append (λ one. bytes_eq one x) found (text ∷ []),
)

-- texts of which each is there once, once one more is added, that is there or not
once_by : (there : Bool) (found new xs rest all : List (List ℕ)) (text : List ℕ)
    → is_one_of found text ≡ there → xs ≡ text ∷ rest
    → found ++ filter (λ x. not (is_one_of found x)) (each_once xs) ≡ all
    → new ≡ with_text found text
    → new ++ filter (λ x. not (is_one_of new x)) (each_once rest) ≡ all
once_by true found new xs rest all text there split so_far one =
    grind (arith, split, so_far, one, there, there_twice found text there (each_once rest))
once_by false found new xs rest all text there split so_far one = grind (
  arith,
  split,
  so_far,
  one,
  there,
  there_more found text (each_once rest),
  append_assoc found (text ∷ [])
      (filter (λ x. not (is_one_of (found ++ (text ∷ [])) x)) (each_once rest)),
)

pub once_more : (found new xs rest all : List (List ℕ)) (text : List ℕ) → xs ≡ text ∷ rest
    → found ++ filter (λ x. not (is_one_of found x)) (each_once xs) ≡ all
    → new ≡ with_text found text
    → new ++ filter (λ x. not (is_one_of new x)) (each_once rest) ≡ all
once_more found new xs rest all text = once_by (is_one_of found text) found new xs rest all text
    refl

-- the first line of a key, once the key of one more line is added
pub one_more_key : (seen : List (ℕ × List ℕ)) (line : Line) (lines rest all : List Line)
    (key : List ℕ) → lines ≡ line ∷ rest
    → option_or (number_of seen key) (first_of lines key) ≡ first_of all key
    → option_or (number_of (with_key seen line.number (key_if_message line.text)) key)
    (first_of rest key) ≡ first_of all key
one_more_key seen line lines rest all key split so_far =
    grind (arith, split, so_far, bytes_eq-Decides (key_of line.text) key)
