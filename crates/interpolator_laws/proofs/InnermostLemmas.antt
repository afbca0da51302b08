-- The argument found at a place has it, and none in its groups does; if none is found, none has it.
use Rattle.std.proofs.Common.{◌≡◌, ◌∙◌, ap, refl, arith, ℕ, ◌<◌, ◌≤◌, Bool, true, false, inl, inr}
use Rattle.std.proofs.Common.{Option, Some, None, if◌then◌else◌, unwrap_or, ◌⊎◌}
use Rattle.std.specs.Option.{option_or}
use Rattle.interpolator_syntax.specs.Nodes.{Node, node, Branch, no_branch, branch, Forest, no_nodes}
use Rattle.interpolator_syntax.specs.Nodes.{nodes_and, as_forest, nodes, Content}
use Rattle.interpolator_syntax.specs.Splits.{Contiguous, GroupsInside, GroupInside, HasGroups}
use Rattle.interpolator_syntax.specs.Splits.{node_place, node_end}
use Rattle.interpolator_syntax.specs.{Places.At, declared.piece_kind.PieceKind.PieceKind}
use Rattle.interpolator_pieces.specs.NodePlaces.{has_place, innermost, InForest, InGroups, InBranch}
use Rattle.interpolator_pieces.specs.NodePlaces.{node_has, argument_in, argument_among, IsInnermost}
use Rattle.interpolator_syntax.proofs.CaseLemmas.{some_same}
use Rattle.interpolator_laws.proofs.ContiguousLemmas.{nodes_contiguous}

-- ---- an argument around another has its places

-- a node that has a place has it between its bytes
kind_reaches : (place from end : ℕ) (kind : PieceKind) → has_place place from end kind ≡ true
    → (from < place) × (place ≤ end)
kind_reaches place from end kind h = grind arith

reaches : (place : ℕ) (x : Node) → node_has place x ≡ true
    → (node_place x < place) × (place ≤ node_end x)
reaches place (node from end kind held item join) h = kind_reaches place from end kind h

-- an argument with groups has every place between its first byte and its last
kind_has : (place from end : ℕ) (kind : PieceKind) → HasGroups kind → from < place → place < end
    → has_place place from end kind ≡ true
kind_has place from end kind g l m = grind arith

-- nodes end at or behind the place at which they begin
goes_up : (p : ℕ) (xs : Forest) (end : ℕ) → Contiguous p xs end → p ≤ end
goes_up p no_nodes end h = omega (arith, h)
goes_up p (nodes_and x xs) end h = omega (arith, h.1, goes_up (node_end x) xs end h.3)

module _ (place : ℕ) (x : Node) (has : node_has place x ≡ true) where
  mutual
    -- a node among others has its places between theirs
    forest_reaches : (p : ℕ) (xs : Forest) (end : ℕ) → Contiguous p xs end → InForest x xs
        → (p < place) × (place ≤ end)
    forest_reaches p no_nodes end h g = absurd g
    forest_reaches p (nodes_and y ys) end h (inl e) =
        let own = rw e at (reaches place x has) in
        omega (arith, own, h.0, goes_up (node_end y) ys end h.3)
    forest_reaches p (nodes_and y ys) end h (inr (inl g)) =
        let own = reaches place y (node_around y h.2 g) in
        omega (arith, own, h.0, goes_up (node_end y) ys end h.3)
    forest_reaches p (nodes_and y ys) end h (inr (inr g)) =
        omega (arith, h.0, h.1, forest_reaches (node_end y) ys end h.3 g)

    -- so a node has the places of those in its groups
    node_around : (y : Node) → GroupsInside y → InGroups x y → node_has place y ≡ true
    node_around (node from end kind held item join) h (inl g) =
        branch_around from end kind item h.0 g
    node_around (node from end kind held item join) h (inr g) =
        branch_around from end kind join h.1 g

    branch_around : (from end : ℕ) (kind : PieceKind) (xs : Branch) → GroupInside from end kind xs
        → InBranch x xs → has_place place from end kind ≡ true
    branch_around from end kind no_branch h g = absurd g
    branch_around from end kind (branch xs) h g =
        let own = forest_reaches h.1 xs h.2 h.5 g in
        kind_has place from end kind h.0 (omega (arith, own, h.3)) (omega (arith, own, h.4))

-- ---- where none is found

by_found : {A : Type 0} (b : Bool) (x : A) (o : Option A) → (if b then Some x else o) ≡ None
    → (b ≡ false) × (o ≡ None)
by_found b x o h = grind arith

-- none of these has the place
abbrev NoneHas : ℕ → Forest → Type 0
NoneHas place xs = (x : Node) → InForest x xs → node_has place x ≡ false

not_true : (b : Bool) → (b ≡ true → ⊥) → b ≡ false
not_true b h = grind arith

forest_without : (place p : ℕ) (xs : Forest) (end : ℕ) → Contiguous p xs end
    → argument_among place xs ≡ None → NoneHas place xs
forest_without place p no_nodes end h none x g = absurd g
forest_without place p (nodes_and y ys) end h none x (inl e) =
    rw e (by_found (node_has place y) _ _ none).0
forest_without place p (nodes_and y ys) end h none x (inr (inl g)) =
    not_true (node_has place x) (λ has.
    let around = node_around place x has y h.2 g in
    let lacks = (by_found (node_has place y) _ _ none).0 in absurd (cc))
forest_without place p (nodes_and y ys) end h none x (inr (inr g)) =
    forest_without place (node_end y) ys end h.3 (by_found (node_has place y) _ _ none).1 x g

branch_without : (place from end : ℕ) (kind : PieceKind) (xs : Branch)
    → GroupInside from end kind xs → argument_in place xs ≡ None → (x : Node) → InBranch x xs
    → node_has place x ≡ false
branch_without place from end kind no_branch h none x g = absurd g
branch_without place from end kind (branch xs) h none x g = grind (arith, forest_without)

-- ---- where one is found

-- an argument has the place, and none in its groups does
record IsAlone (place : ℕ) (argument : Node) (bytes : ℕ × ℕ) : Type 0 where
  has : node_has place argument ≡ true
  bytes_are : (node_place argument, node_end argument) ≡ bytes
  alone : (x : Node) → InGroups x argument → node_has place x ≡ false

-- such an argument is in a group
abbrev OfBranch : ℕ → ℕ × ℕ → Branch → Type 0
OfBranch place bytes xs = (argument : Node) × InBranch argument xs × IsAlone place argument bytes

-- in a node it is that of its item format, or of its join, or the node itself
in_groups : (place from end : ℕ) (kind : PieceKind) (held : Option Content) (item join : Branch)
    (ys : Forest) (bytes : ℕ × ℕ) → GroupsInside (node from end kind held item join)
    → has_place place from end kind ≡ true → (i j : Option (ℕ × ℕ)) → argument_in place item ≡ i
    → argument_in place join ≡ j
    → (argument_in place item ≡ Some bytes → OfBranch place bytes item)
    → (argument_in place join ≡ Some bytes → OfBranch place bytes join)
    → unwrap_or (option_or i j) (from, end) ≡ bytes
    → OfBranch place bytes (branch (nodes_and (node from end kind held item join) ys))
in_groups place from end kind held item join ys bytes h has (Some own) j e f first second is =
    let one = first (e ∙ ap Some is) in (one.0, inr (inl (inl one.1)), one.2)
in_groups place from end kind held item join ys bytes h has None (Some own) e f first second is =
    let one = second (f ∙ ap Some is) in (one.0, inr (inl (inr one.1)), one.2)
in_groups place from end kind held item join ys bytes h has None None e f first second is = (
  node from end kind held item join,
  inl refl,
  record { has = has; bytes_are = is; alone = none_inside },
)
  where
    none_inside : (x : Node) → InBranch x item ⊎ InBranch x join → node_has place x ≡ false
    none_inside x (inl g) = branch_without place from end kind item h.0 e x g
    none_inside x (inr g) = branch_without place from end kind join h.1 f x g

mutual
  -- among nodes it is that of the first, or of the rest
  forest_innermost : (place p : ℕ) (xs : Forest) (end : ℕ) (bytes : ℕ × ℕ) → Contiguous p xs end
      → argument_among place xs ≡ Some bytes → OfBranch place bytes (branch xs)
  forest_innermost place p no_nodes end bytes h found = absurd (cc)
  forest_innermost place p (nodes_and y ys) end bytes h found =
      grind (
        arith,
        some_same,
        node_innermost place y ys bytes h.2,
        forest_innermost place (node_end y) ys end bytes h.3,
      )

  branch_innermost : (place from end : ℕ) (kind : PieceKind) (xs : Branch) (bytes : ℕ × ℕ)
      → GroupInside from end kind xs → argument_in place xs ≡ Some bytes
      → OfBranch place bytes xs
  branch_innermost place from end kind no_branch bytes h found = absurd (cc)
  branch_innermost place from end kind (branch xs) bytes h found =
      forest_innermost place h.1 xs h.2 bytes h.5 found

  node_innermost : (place : ℕ) (y : Node) (ys : Forest) (bytes : ℕ × ℕ) → GroupsInside y
      → node_has place y ≡ true → innermost place y ≡ bytes
      → OfBranch place bytes (branch (nodes_and y ys))
  node_innermost place (node from end kind held item join) ys bytes h has is =
      in_groups place from end kind held item join ys bytes h has (argument_in place item)
      (argument_in place join) refl refl (branch_innermost place from end kind item bytes h.0)
      (branch_innermost place from end kind join bytes h.1) is

-- ---- of a text

pub innermost_found : (a : At) (place : ℕ) (bytes : ℕ × ℕ)
    → argument_among place (as_forest (nodes a)) ≡ Some bytes
    → IsInnermost place (as_forest (nodes a)) bytes
innermost_found a place bytes e =
    let one = forest_innermost place a.place (as_forest (nodes a)) _ bytes (nodes_contiguous a) e in
    grind (arith, one)

pub none_found : (a : At) (place : ℕ) → argument_among place (as_forest (nodes a)) ≡ None
    → NoneHas place (as_forest (nodes a))
none_found a place e =
    forest_without place a.place (as_forest (nodes a)) _ (nodes_contiguous a) e
