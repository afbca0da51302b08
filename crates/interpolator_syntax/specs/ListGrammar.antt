-- The text after the letter of a list by its parts, one after the other: a range and two groups.
use Rattle.std.specs.Prelude.{◌≡◌, ◌≢◌, ◌⊎◌, ℕ, ℤ, Bool, true, false, ◌==◌, ◌||◌, List, ◌∷◌, Option}
use Rattle.std.specs.Prelude.{Some, None, codes}
use Rattle.interpolator_syntax.specs.Classes.{in_class, point, equals, hash, open_bracket}
use Rattle.interpolator_syntax.specs.GrammarParts.{Part, ◌>>=◌, ends, Lies, where_first, number}
use Rattle.interpolator_syntax.specs.GroupGrammar.{IsGroup, IsNoGroup}
use Rattle.interpolator_syntax.specs.Faults.{Fault, range_bound}
use Rattle.interpolator_syntax.specs.declared.{class.Class.TheVariants.Number, range.Range.Range}
use Rattle.interpolator_syntax.specs.{Places.At, Ranges.range_of, Groups.Group, Lists.ListRequest}
use Rattle.interpolator_syntax.specs.{NumberGrammar.integers, Grammar.NotFirst}

-- a bound, if there is a digit or a `-`
abbrev pub bound : (start : ℕ) → Part (Option ℤ)
bound start = where_first (in_class Number) (number integers range_bound start)

-- the text does not begin with two points
abbrev pub NoPoints : List ℕ → Type 0
NoPoints text = (more : List ℕ) → text ≢ point ∷ point ∷ more

-- `..=`, or `..` if no `=` follows, and whether it has the `=`; or neither
abbrev pub points : Part (Option Bool)
points = record {
  is =
      λ a x q. (Lies a (codes "..=") q × (x ≡ Some true))
      ⊎ ((Lies a (codes "..") q × NotFirst equals q.text × (x ≡ Some false))
      ⊎ (NoPoints a.text × (x ≡ None) × (q ≡ a)));
  is_not = λ a f. ⊥;
}

-- an upper bound, which is there only after points
abbrev pub upper : (start : ℕ) → Option Bool → Part (Option ℤ)
upper start None = ends None
upper start (Some inclusive) = bound start

-- a range: a bound, points and an upper bound, each if it is there; a bound alone is both bounds
abbrev pub range : (start : ℕ) → Part (Option Range)
range start =
    do
      lower ← bound start
      inclusive ← points
      upper ← upper start inclusive
      ends (range_of lower inclusive upper)

-- this range, if any, is at a, and after it the text at q
abbrev pub IsRange : (start : ℕ) → (a : At) → (x : Option Range) → (q : At) → Type 0
IsRange start = (range start).is

-- no range can be at a, for this reason
abbrev pub IsNoRange : (start : ℕ) → (a : At) → (f : Fault) → Type 0
IsNoRange start = (range start).is_not

-- `(` or `#`
abbrev pub opens_group : ℕ → Bool
opens_group c = c == open_bracket || c == hash

-- a group
abbrev pub group : (start : ℕ) → Part Group
group start = record { is = IsGroup; is_not = IsNoGroup start }

-- a group, if there is a `(` or a `#`
abbrev pub group_there : (start : ℕ) → Part (Option Group)
group_there start =
    where_first opens_group (do
      g ← group start
      ends (Some g))

-- the form of a list: a range, the format of an item, and the join
abbrev pub list : (start : ℕ) → Part ListRequest
list start =
    do
      range ← range start
      item ← group_there start
      join ← group_there start
      ends (record { range = range; item = item; join = join })

-- x is at a, after the letter of a list, and after it the text at q
abbrev pub IsList : (start : ℕ) → (a : At) → (x : ListRequest) → (q : At) → Type 0
IsList start = (list start).is

-- no form of a list can be at a, after its letter, for this reason
abbrev pub IsNoList : (start : ℕ) → (a : At) → (f : Fault) → Type 0
IsNoList start = (list start).is_not
