-- The entry at a guessed place, in a list that changes.
use Rattle.std.specs.{List.find, List.position_or_len, Option.option_or}
use Rattle.std.proofs.Common.{◌≡◌, ◌∙◌, ◌≤◌, ◌<◌, refl, ap, sym, arith, ℕ, suc, zero, List, ◌∷◌, []}
use Rattle.std.proofs.Common.{◌++◌, Bool, true, false, cond, not, length, get_or, set, Option, Some}
use Rattle.std.proofs.Common.{None, ◌+◌, slice_get}
use Rattle.std.proofs.lemmas.List.Folds.{find-append, find-set, find_past}
use Rattle.interpolator_eval.specs.NameNumbers.{passes, guessed, guessed_place}

module _ {X : Type 0} where
  -- what is at a place in range is the entry there
  at_place : (xs : List X) (place : ℕ) (x : X) → place < length xs → x ≡ get_or xs place x
      → slice_get xs place ≡ Some x
  at_place [] place x within is = absurd (omega arith)
  at_place (y ∷ ys) zero x within is = ap Some (sym is)
  at_place (y ∷ ys) (suc place) x within is = at_place ys place x (omega arith) is

  -- past the end there is none
  past_end : (xs : List X) (place : ℕ) → length xs ≤ place → slice_get xs place ≡ None
  past_end [] place past = refl
  past_end (y ∷ ys) zero past = absurd (omega arith)
  past_end (y ∷ ys) (suc place) past = past_end ys place (omega arith)

  -- a place in range keeps its entry
  kept_place : (xs : List X) (e : X) (place : ℕ) → place < length xs
      → slice_get (xs ++ e ∷ []) place ≡ slice_get xs place
  kept_place [] e place within = absurd (omega arith)
  kept_place (y ∷ ys) e zero within = refl
  kept_place (y ∷ ys) e (suc place) within = kept_place ys e place (omega arith)

  -- a new entry is at the end
  end_place : (xs : List X) (e : X) → slice_get (xs ++ e ∷ []) (length xs) ≡ Some e
  end_place [] e = refl
  end_place (y ∷ ys) e = end_place ys e

  -- an entry that is written over
  set_place : (xs : List X) (place : ℕ) (y : X) → place < length xs
      → slice_get (set xs place y) place ≡ Some y
  set_place [] place y within = absurd (omega arith)
  set_place (x ∷ xs) zero y within = refl
  set_place (x ∷ xs) (suc place) y within = set_place xs place y (omega arith)

module _ {X : Type 0} (test : X → Bool) where
  -- what is at the first place that passes is found, and passes
  found_at : (xs : List X) (place : ℕ) (x : X) → place ≡ position_or_len test xs
      → place < length xs → x ≡ get_or xs place x → find test xs ≡ Some x
  found_at [] place x at within is = absurd (omega arith)
  found_at (y ∷ ys) zero x at within is = by (test y) at
    where
      by : (b : Bool) → 0 ≡ cond (not b) (1 + position_or_len test ys) 0
          → cond b (Some y) (find test ys) ≡ Some x
      by true k = ap Some (sym is)
      by false k = absurd (omega (arith, k))
  found_at (y ∷ ys) (suc place) x at within is =
      by (test y) at (λ k. found_at ys place x k (omega (arith, within)) is)
    where
      by : (b : Bool) → suc place ≡ cond (not b) (1 + position_or_len test ys) 0
          → (place ≡ position_or_len test ys → find test ys ≡ Some x)
          → cond b (Some y) (find test ys) ≡ Some x
      by true k rest = absurd (omega (arith, k))
      by false k rest = rest (omega (arith, k))

  found_passes : (xs : List X) (x : X) → find test xs ≡ Some x → test x ≡ true
  found_passes [] x is = grind (arith, is)
  found_passes (y ∷ ys) x is = by (test y) refl (found_passes ys x) is
    where
      by : (b : Bool) → test y ≡ b → (find test ys ≡ Some x → test x ≡ true)
          → cond b (Some y) (find test ys) ≡ Some x → test x ≡ true
      by true k rest found = grind (arith, k, found)
      by false k rest found = rest found

  -- past the last place nothing passes
  missing : (xs : List X) → length xs ≤ position_or_len test xs → find test xs ≡ None
  missing [] past = refl
  missing (y ∷ ys) past = by (test y) past (missing ys)
    where
      by : (b : Bool) → length (y ∷ ys) ≤ cond (not b) (1 + position_or_len test ys) 0
          → (length ys ≤ position_or_len test ys → find test ys ≡ None)
          → cond b (Some y) (find test ys) ≡ None
      by true k rest = absurd (omega (arith, k))
      by false k rest = rest (omega (arith, k))

  -- the entry at the place of a look-up is what it finds, and passes
  pub chosen_is : (xs : List X) (guess place : ℕ) (x : X) → place ≡ guessed_place test xs guess
      → place < length xs → x ≡ get_or xs place x → guessed test xs guess ≡ Some x
  chosen_is xs guess place x at within is = by (passes test (slice_get xs guess)) at
    where
      by : (b : Bool) → place ≡ cond b guess (position_or_len test xs)
          → cond b (slice_get xs guess) (find test xs) ≡ Some x
      by true k = ap (slice_get xs) (sym k) ∙ at_place xs place x within is
      by false k = found_at xs place x k within is

  pub chosen_passes : (xs : List X) (guess : ℕ) (x : X) → guessed test xs guess ≡ Some x
      → test x ≡ true
  chosen_passes xs guess x is = by (passes test (slice_get xs guess)) refl is
    where
      by : (b : Bool) → passes test (slice_get xs guess) ≡ b
          → cond b (slice_get xs guess) (find test xs) ≡ Some x → test x ≡ true
      by true k found = rw found at k
      by false k found = found_passes xs x found

  -- a look-up whose place is past the end finds nothing
  pub chosen_none : (xs : List X) (guess : ℕ) → length xs ≤ guessed_place test xs guess
      → guessed test xs guess ≡ None
  chosen_none xs guess past = by (passes test (slice_get xs guess)) past
    where
      by : (b : Bool) → length xs ≤ cond b guess (position_or_len test xs)
          → cond b (slice_get xs guess) (find test xs) ≡ None
      by true k = past_end xs guess k
      by false k = missing xs k

  -- one more entry that does not pass
  passes_more : (xs : List X) (e : X) (place : ℕ) → test e ≡ false
      → passes test (slice_get (xs ++ e ∷ []) place) ≡ passes test (slice_get xs place)
  passes_more [] e zero fails = fails
  passes_more [] e (suc place) fails = refl
  passes_more (y ∷ ys) e zero fails = refl
  passes_more (y ∷ ys) e (suc place) fails = passes_more ys e place fails

  kept_if : (xs : List X) (e : X) (place : ℕ) → passes test (slice_get xs place) ≡ true
      → slice_get (xs ++ e ∷ []) place ≡ slice_get xs place
  kept_if [] e place is = grind (arith, is)
  kept_if (y ∷ ys) e zero is = refl
  kept_if (y ∷ ys) e (suc place) is = kept_if ys e place is

  or_nothing : (a : Option X) → option_or a None ≡ a
  or_nothing None = refl
  or_nothing (Some x) = refl

  find_more : (xs : List X) (e : X) → test e ≡ false → find test (xs ++ e ∷ []) ≡ find test xs
  find_more xs e fails =
      find-append test xs (e ∷ [])
      ∙ ap (λ b. option_or (find test xs) (cond b (Some e) None)) fails ∙ or_nothing (find test xs)

  pub other_more : (xs : List X) (e : X) (guess : ℕ) → test e ≡ false
      → guessed test (xs ++ e ∷ []) guess ≡ guessed test xs guess
  other_more xs e guess fails =
      ap (λ b. cond b (slice_get (xs ++ e ∷ []) guess) (find test (xs ++ e ∷ [])))
      (passes_more xs e guess fails)
      ∙ by (passes test (slice_get xs guess)) refl
    where
      by : (b : Bool) → passes test (slice_get xs guess) ≡ b
          → cond b (slice_get (xs ++ e ∷ []) guess) (find test (xs ++ e ∷ []))
          ≡ cond b (slice_get xs guess) (find test xs)
      by true k = kept_if xs e guess k
      by false k = find_more xs e fails

  -- a guess that was past the end and is now the new entry's
  pub other_at_end : (xs : List X) (e : X) (guess : ℕ) → test e ≡ false → length xs ≤ guess
      → guessed test (xs ++ e ∷ []) (length xs) ≡ guessed test xs guess
  other_at_end xs e guess fails past =
      other_more xs e (length xs) fails
      ∙ ap (λ o. cond (passes test o) o (find test xs))
      (past_end xs (length xs) (omega arith) ∙ sym (past_end xs guess past))

  -- the new entry, by its guess
  pub own_at_end : (xs : List X) (e : X) → test e ≡ true
      → guessed test (xs ++ e ∷ []) (length xs) ≡ Some e
  own_at_end xs e is =
      ap (λ o. cond (passes test o) o (find test (xs ++ e ∷ []))) (end_place xs e)
      ∙ ap (λ b. cond b (Some e) (find test (xs ++ e ∷ []))) is

  -- the new entry, if its guess is an earlier entry's
  pub own_searched : (xs : List X) (e : X) (guess : ℕ) → test e ≡ true → guess < length xs
      → guessed test xs guess ≡ None → guessed test (xs ++ e ∷ []) guess ≡ Some e
  own_searched xs e guess is within none =
      ap (λ o. cond (passes test o) o (find test (xs ++ e ∷ []))) (kept_place xs e guess within)
      ∙ by (passes test (slice_get xs guess)) refl none
    where
      by : (b : Bool) → passes test (slice_get xs guess) ≡ b
          → cond b (slice_get xs guess) (find test xs) ≡ None
          → cond b (slice_get xs guess) (find test (xs ++ e ∷ [])) ≡ Some e
      by true k empty = absurd (grind (arith, rw empty at k))
      by false k empty =
          find-append test xs (e ∷ [])
          ∙ ap (λ o. option_or o (cond (test e) (Some e) None)) empty
          ∙ ap (λ b. option_or None (cond b (Some e) None)) is

  -- an entry that does not pass, written over by another
  passes_over : (xs : List X) (place guess : ℕ) (x y : X) → x ≡ get_or xs place x
      → test x ≡ false → test y ≡ false
      → passes test (slice_get (set xs place y) guess) ≡ passes test (slice_get xs guess)
  passes_over [] place guess x y at no_x no_y = refl
  passes_over (z ∷ zs) zero zero x y at no_x no_y = no_y ∙ sym (ap test (sym at) ∙ no_x)
  passes_over (z ∷ zs) zero (suc guess) x y at no_x no_y = refl
  passes_over (z ∷ zs) (suc place) zero x y at no_x no_y = refl
  passes_over (z ∷ zs) (suc place) (suc guess) x y at no_x no_y =
      passes_over zs place guess x y at no_x no_y

  kept_over : (xs : List X) (place guess : ℕ) (x y : X) → x ≡ get_or xs place x
      → test x ≡ false → passes test (slice_get xs guess) ≡ true
      → slice_get (set xs place y) guess ≡ slice_get xs guess
  kept_over [] place guess x y at no_x is = refl
  kept_over (z ∷ zs) zero zero x y at no_x is =
      absurd (grind (arith, is, ap test (sym at) ∙ no_x))
  kept_over (z ∷ zs) zero (suc guess) x y at no_x is = refl
  kept_over (z ∷ zs) (suc place) zero x y at no_x is = refl
  kept_over (z ∷ zs) (suc place) (suc guess) x y at no_x is =
      kept_over zs place guess x y at no_x is

  pub other_over : (xs : List X) (place guess : ℕ) (x y : X) → x ≡ get_or xs place x
      → test x ≡ false → test y ≡ false
      → guessed test (set xs place y) guess ≡ guessed test xs guess
  other_over xs place guess x y at no_x no_y =
      ap (λ b. cond b (slice_get (set xs place y) guess) (find test (set xs place y)))
      (passes_over xs place guess x y at no_x no_y)
      ∙ by (passes test (slice_get xs guess)) refl
    where
      by : (b : Bool) → passes test (slice_get xs guess) ≡ b
          → cond b (slice_get (set xs place y) guess) (find test (set xs place y))
          ≡ cond b (slice_get xs guess) (find test xs)
      by true k = kept_over xs place guess x y at no_x k
      by false k = find_past test xs place y x (ap test (sym at) ∙ no_x) no_y

  -- an entry that passes, at another place than one that does not
  kept_apart : (xs : List X) (place guess : ℕ) (x y : X) → x ≡ get_or xs place x
      → place < length xs → test x ≡ true → passes test (slice_get xs guess) ≡ false
      → slice_get (set xs place y) guess ≡ slice_get xs guess
  kept_apart [] place guess x y at within is fails = refl
  kept_apart (z ∷ zs) zero zero x y at within is fails =
      absurd (grind (arith, fails, ap test (sym at) ∙ is))
  kept_apart (z ∷ zs) zero (suc guess) x y at within is fails = refl
  kept_apart (z ∷ zs) (suc place) zero x y at within is fails = refl
  kept_apart (z ∷ zs) (suc place) (suc guess) x y at within is fails =
      kept_apart zs place guess x y at (omega arith) is fails

  -- the entry that a look-up finds, written over by one that passes
  pub own_over : (xs : List X) (place guess : ℕ) (x y : X) → place ≡ guessed_place test xs guess
      → place < length xs → x ≡ get_or xs place x → test y ≡ true
      → guessed test (set xs place y) guess ≡ Some y
  own_over xs place guess x y at within is good =
      by (passes test (slice_get xs guess)) refl at
    where
      passing : test x ≡ true
      passing = chosen_passes xs guess x (chosen_is xs guess place x at within is)

      over : (o : Option X) → slice_get (set xs place y) guess ≡ o
          → guessed test (set xs place y) guess
          ≡ cond (passes test o) o (find test (set xs place y))
      over o k = ap (λ o. cond (passes test o) o (find test (set xs place y))) k

      by : (b : Bool) → passes test (slice_get xs guess) ≡ b
          → place ≡ cond b guess (position_or_len test xs)
          → guessed test (set xs place y) guess ≡ Some y
      by true k e =
          over (Some y) (ap (slice_get (set xs place y)) (sym e) ∙ set_place xs place y within)
          ∙ ap (λ b. cond b (Some y) (find test (set xs place y))) good
      by false k e =
          over (slice_get xs guess) (kept_apart xs place guess x y is within passing k)
          ∙ ap (λ b. cond b (slice_get xs guess) (find test (set xs place y))) k
          ∙ find-set test xs place y e within good
