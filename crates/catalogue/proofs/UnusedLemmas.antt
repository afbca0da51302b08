-- Names that are left, once more of them are left out.
use Rattle.std.proofs.Common.{◌≡◌, ◌∙◌, ap, arith, refl, ℕ, ◌||◌, IsUtf8, List, [], ◌∷◌, ◌++◌, Bool}
use Rattle.std.proofs.Common.{Option, None, Some, Result, Err, false, filter, not}
use Rattle.std.proofs.{lemmas.Slice.Eq.bytes_eq-Decides, lemmas.Str.encodes-chars}
use Rattle.std.specs.Str.{bytes_eq, chars}
use Rattle.plurals.specs.{Readings.tree_at, declared.fault.Fault.Fault}
use Rattle.catalogue.specs.Files.{Line, Page, lines_of}
use Rattle.catalogue.specs.Unused.{and_names, declares, format_asks, is_used, is_used_in, rule_asks}
use Rattle.catalogue.specs.Unused.{uses, with_name}
use Rattle.catalogue.specs.{Declarations.Declared, Lacks.each_once, Lacks.is_one_of}
use Rattle.catalogue.proofs.FormLemmas.{once_more}

-- nothing is left out
pub all_left : (names : List (List ℕ)) → names ≡ filter (λ name. not false) names
all_left [] = refl
all_left (name ∷ names) = ap (λ left. name ∷ left) (all_left names)

-- what is left out by one test and then by another is left out by both
pub left_twice : (p q : List ℕ → Bool) (names : List (List ℕ))
    → filter (λ name. not (q name)) (filter (λ name. not (p name)) names)
    ≡ filter (λ name. not (p name || q name)) names
left_twice p q [] = refl
left_twice p q (name ∷ names) = grind (arith, left_twice p q names)

-- a broken format, no rule and a broken one ask for nothing
pub broken_format : (format : Result (List ℕ) ℕ) (place : ℕ) (names : List (List ℕ))
    → format ≡ Err place → names ≡ filter (λ name. not (format_asks name format)) names
broken_format format place names is = rw is (all_left names)

pub no_rule : (rule : Option (List ℕ)) (names : List (List ℕ)) → rule ≡ None
    → names ≡ filter (λ name. not (rule_asks name rule)) names
no_rule rule names is = rw is (all_left names)

pub broken_rule : (rule : Option (List ℕ)) (text : List ℕ) (fault : Fault)
    (names : List (List ℕ)) → rule ≡ Some text → tree_at text ≡ Err fault
    → names ≡ filter (λ name. not (rule_asks name rule)) names
broken_rule rule text fault names is broken = rw (is, broken) (all_left names)

-- a message leaves out what it declares and what its format asks for
pub left_by_message : (heading other : Declared) (format : Result (List ℕ) ℕ)
    (names after new : List (List ℕ)) → heading ≡ other
    → after ≡ filter (λ name. not (declares name heading)) names
    → new ≡ filter (λ name. not (format_asks name format)) after
    → new ≡ filter (λ name. not (declares name other || format_asks name format)) names
left_by_message heading other format names after new is declared asked =
    asked ∙ rw (declared, is)
    (left_twice (λ name. declares name other) (λ name. format_asks name format) names)

-- names that no line of what is left uses, once one more line is looked at
pub left_next : (line : Line) (lines rest : List Line) (left new all : List (List ℕ))
    → lines ≡ line ∷ rest → filter (λ name. not (is_used name lines)) left ≡ all
    → new ≡ filter (λ name. not (uses name line)) left
    → filter (λ name. not (is_used name rest)) new ≡ all
left_next line lines rest left new all split so_far one =
    rw one (left_twice (λ name. uses name line) (λ name. is_used name rest) left)
    ∙ (rw split at so_far)

-- and once no line is left
pub left_last : (lines : List Line) (left all : List (List ℕ)) → lines ≡ []
    → filter (λ name. not (is_used name lines)) left ≡ all → left ≡ all
left_last lines left all none so_far = all_left left ∙ (rw none at so_far)

-- the same of files
pub left_next_file : (page : Page) (pages rest : List Page) (left new all : List (List ℕ))
    → pages ≡ page ∷ rest → filter (λ name. not (is_used_in pages name)) left ≡ all
    → new ≡ filter (λ name. not (is_used name (lines_of page))) left
    → filter (λ name. not (is_used_in rest name)) new ≡ all
left_next_file page pages rest left new all split so_far one =
    rw one (left_twice (λ name. is_used name (lines_of page)) (λ name. is_used_in rest name) left)
    ∙ (rw split at so_far)

pub left_last_file : (pages : List Page) (left all : List (List ℕ)) → pages ≡ []
    → filter (λ name. not (is_used_in pages name)) left ≡ all → left ≡ all
left_last_file pages left all none so_far = all_left left ∙ (rw none at so_far)

-- names of which each is there once, once that of one more word is added, if it has one
pub name_more : (name : Option (List ℕ)) (found new xs rest all : List (List ℕ))
    → xs ≡ and_names name rest
    → found ++ filter (λ x. not (is_one_of found x)) (each_once xs) ≡ all
    → new ≡ with_name found name
    → new ++ filter (λ x. not (is_one_of new x)) (each_once rest) ≡ all
name_more None found new xs rest all split so_far one = rw one (rw split at so_far)
name_more (Some name) found new xs rest all split so_far one =
    once_more found new xs rest all name split so_far one

-- texts have the same bytes if they have the same characters
pub same_chars : (one other : List ℕ) → IsUtf8 one → IsUtf8 other
    → bytes_eq one other ≡ bytes_eq (chars one) (chars other)
same_chars one other valid other_valid = grind (
  arith,
  bytes_eq-Decides one other,
  bytes_eq-Decides (chars one) (chars other),
  encodes-chars one valid,
  encodes-chars other other_valid,
)
