-- The last pair of a name among the pairs of two lists.
use Rattle.std.specs.{Option.option_map, Option.option_or, Str.bytes_eq, List.find}
use Rattle.std.proofs.Common.{◌≡◌, ◌∙◌, ap, refl, ℕ, ◌+◌, List, ◌++◌, take, drop, reverse, Bool}
use Rattle.std.proofs.Common.{Bor, Option, None, Some}
use Rattle.std.proofs.{Math.Seq.take-add, lemmas.List.reverse-append, lemmas.List.Folds.find-append}
use Rattle.interpolator_eval.specs.Contexts.{last_under}

-- what is done to the first of two options is done to each
mapped : {X Y : Type 0} (f : X → Y) (a b : Option X)
    → option_map f (option_or a b) ≡ option_or (option_map f a) (option_map f b)
mapped f None b = refl
mapped f (Some a) b = refl

module _ {Y : Type 0} (bytes : List ℕ) where
  abbrev is_named : Bor (List ℕ) × Y → Bool
  is_named pair = bytes_eq bytes pair.0.now

  -- the later pairs come first
  joined : (front back : List (Bor (List ℕ) × Y))
      → last_under (front ++ back) bytes
      ≡ option_or (last_under back bytes) (last_under front bytes)
  joined front back =
      ap (λ pairs. option_map (λ pair. pair.1) (find is_named pairs)) (reverse-append front back)
      ∙ ap (option_map (λ pair. pair.1)) (find-append is_named (reverse back) (reverse front))
      ∙ mapped (λ pair. pair.1) (find is_named (reverse back)) (find is_named (reverse front))

  -- of the pairs up to a place, some are before `from`, and `count` of them after it
  module _ (pairs : List (Bor (List ℕ) × Y)) (from count to : ℕ) (at : to ≡ from + count) where
    parts : last_under (take to pairs) bytes
        ≡ option_or (last_under (take count (drop from pairs)) bytes)
        (last_under (take from pairs) bytes)
    parts =
        ap (λ k. last_under (take k pairs) bytes) at
        ∙ ap (λ front. last_under front bytes) (take-add from count pairs)
        ∙ joined (take from pairs) (take count (drop from pairs))

    -- the last among the later pairs is the last of all
    pub found : (value : Y) → last_under (take count (drop from pairs)) bytes ≡ Some value
        → last_under (take to pairs) bytes ≡ Some value
    found value is = parts ∙ ap (λ o. option_or o (last_under (take from pairs) bytes)) is

    -- what no later pair has is sought among those before
    pub passed : last_under (take count (drop from pairs)) bytes ≡ None
        → last_under (take to pairs) bytes ≡ last_under (take from pairs) bytes
    passed is = parts ∙ ap (λ o. option_or o (last_under (take from pairs) bytes)) is
