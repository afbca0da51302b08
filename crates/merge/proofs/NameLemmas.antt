-- Names, and which of them were seen.
use Rattle.std.proofs.Common.{◌≡◌, ◌∙◌, refl, sym, ap, ℕ, ◌+◌, ◌<◌, Bool, true, false, ◌||◌, cond}
use Rattle.std.proofs.Common.{List, [], ◌∷◌, ◌++◌, map, length, take, drop, get_or, append_assoc}
use Rattle.std.proofs.Common.{Option, None, Some, is_some, nat_lt, not}
use Rattle.std.proofs.lemmas.List.{drop_more, length-map, map_more}
use Rattle.std.proofs.lemmas.Map.Text.{btree_map_updates_str}
use Rattle.std.specs.{List.position, List.prefix_len, BTreeMap.BTreeMap, BTreeMap.UpdatesBy}
use Rattle.std.specs.{Borrow.Bor, Cmp.Lexicographic.slice_cmp, Ordering.nat_cmp, Str.bytes_eq}
use Rattle.merge.specs.Table.{is_among, repeat_trouble, repeats_after, with_line}
use Rattle.merge.specs.declared.{columns.Column.Column, table.LineFault.LineFault}
use Rattle.merge.specs.{Columns.column_named, Columns.is_named, Columns.names_in, Names.Knows}

-- a name is among some and one more
among_more : (names : List (List ℕ)) (one name : List ℕ)
    → is_among (names ++ (one ∷ [])) name ≡ cond (bytes_eq one name) true (is_among names name)
among_more [] one name =
    elim (bytes_eq one name) as (λ b. (b || false) ≡ cond b true false) [ true ↦ refl | false ↦ refl ]
among_more (n ∷ names) one name =
    ap (λ b. bytes_eq n name || b) (among_more names one name)
    ∙ (elim (bytes_eq n name) as (λ b. (b || cond (bytes_eq one name) true (is_among names name))
    ≡ cond (bytes_eq one name) true (b || is_among names name)) [
      | true ↦ elim (bytes_eq one name) as (λ c. true ≡ cond c true true) [
        | true ↦ refl
        | false ↦ refl
      ]
      | false ↦ refl
    ])

some_of : {X : Type 0} (b : Bool) (value : X) (other : Option X)
    → is_some (cond b (Some value) other) ≡ cond b true (is_some other)
some_of true value other = refl
some_of false value other = refl

-- one more name is known
pub knows_more : (seen more : BTreeMap (Bor (List ℕ)) ℕ) (names : List (List ℕ)) (one : List ℕ)
    (value : ℕ) → UpdatesBy (λ x y. slice_cmp nat_cmp x.now y.now)
    (λ k. slice_cmp nat_cmp one k.now) seen more (Some value) → Knows seen names
    → Knows more (names ++ (one ∷ []))
knows_more seen more names one value updates knows = λ name.
    ap is_some (btree_map_updates_str one seen more (Some value) updates name)
    ∙ (some_of (bytes_eq one name) value _
    ∙ (ap (λ b. cond (bytes_eq one name) true b) (knows name) ∙ sym (among_more names one name)))

-- after some columns, the faults of one more and those of the names after it
pub repeats_next : {X : Type 0} (name_of : X → List ℕ) (columns : List X) (n : ℕ) (column : X)
    (reported all : List LineFault) → n < length columns
    → reported ++ repeats_after (map name_of (take n columns)) (map name_of (drop n columns)) ≡ all
    → (reported ++ with_line 1 (repeat_trouble (map name_of (take n columns))
    (name_of (get_or columns n column)))) ++ repeats_after (map name_of (take (n + 1) columns))
    (map name_of (drop (n + 1) columns)) ≡ all
repeats_next name_of columns n column reported all within so_far =
    rw (map_more name_of columns n column within, append_assoc)
    (rw (drop_more columns n column within) at so_far)

pub knows_next : {X : Type 0} (name_of : X → List ℕ) (columns : List X) (n : ℕ) (column : X)
    (seen : BTreeMap (Bor (List ℕ)) ℕ) → n < length columns
    → Knows seen (map name_of (take n columns) ++ (name_of (get_or columns n column) ∷ []))
    → Knows seen (map name_of (take (n + 1) columns))
knows_next name_of columns n column seen within knows = λ name.
    rw (map_more name_of columns n column within) (knows name)

-- the first column of a name is where the name is first
prefix_named : (columns : List Column) (name : List ℕ)
    → prefix_len (λ column. not (is_named name column)) columns
    ≡ prefix_len (λ other. not (bytes_eq other name)) (names_in columns)
prefix_named [] name = refl
prefix_named (column ∷ columns) name = rw (prefix_named columns name) refl

pub position_named : (columns : List Column) (name : List ℕ)
    → position (is_named name) columns ≡ column_named (names_in columns) name
position_named columns name =
    ap (λ n. cond (nat_lt n (length columns)) (Some n) None) (prefix_named columns name)
    ∙ ap (λ n. cond (nat_lt (prefix_len (λ other. not (bytes_eq other name)) (names_in columns)) n)
    (Some (prefix_len (λ other. not (bytes_eq other name)) (names_in columns))) None)
    (sym (length-map {B = List ℕ} columns (λ column. column.name.now)))
