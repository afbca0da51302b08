-- The names that were seen.
use Rattle.std.specs.Prelude.{◌≡◌, ℕ, List, is_some}
use Rattle.std.specs.BTreeMap.{BTreeMap, get_by}
use Rattle.std.specs.{Borrow.Bor, Cmp.Lexicographic.slice_cmp, Ordering.nat_cmp}
use Rattle.merge.specs.Table.{is_among}

-- a map has these names as keys, and no others
abbrev pub Knows : BTreeMap (Bor (List ℕ)) ℕ → List (List ℕ) → Type 0
Knows seen names = (name : List ℕ)
    → is_some (get_by (λ k. slice_cmp nat_cmp name k.now) seen) ≡ is_among names name
