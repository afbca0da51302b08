-- The faults that a text has by itself lie in it, and are of the kinds that a text can have.
use Rattle.std.proofs.Common.{◌≡◌, ℕ, zero, suc, ◌+◌, ◌<◌, ◌≤◌, List, [], ◌∷◌, ◌++◌, length, arith}
use Rattle.std.proofs.Common.{subst, Some, None, option_map}
use Rattle.std.specs.{Prelude.⊤, Prelude.Contains, Prelude.slice_index_or, Str.chars, Str.IsUtf8}
use Rattle.interpolator_syntax.specs.Places.{At, size, outermost}
use Rattle.interpolator_syntax.specs.Faults.{Fault, fault, fault_place, PlaceWithin}
use Rattle.interpolator_syntax.specs.Nodes.{Node, node, Branch, no_branch, branch, Forest, no_nodes}
use Rattle.interpolator_syntax.specs.Nodes.{nodes_and, as_forest, nodes, Content}
use Rattle.interpolator_syntax.specs.declared.piece_kind.PieceKind.{PieceKind}
use Rattle.interpolator_pieces.specs.NodeChecks.{fault_list, first_fault, own_fault, end_fault}
use Rattle.interpolator_pieces.specs.NodeChecks.{node_faults, branch_faults, forest_faults}
use Rattle.interpolator_pieces.specs.NodeChecks.{text_faults, IsOfText}
use Rattle.interpolator_syntax.proofs.CharacterLemmas.{size-chars}
use Rattle.interpolator_syntax.proofs.TreePlaceLemmas.{ContentLies, NodeLies, BranchLies}
use Rattle.interpolator_syntax.proofs.TreePlaceLemmas.{ForestLies, places_lie}

-- the place of each fault is at most n, and the fault is of a kind that a text can have
abbrev pub FaultsWithin : ℕ → List Fault → Type 0
FaultsWithin n [] = ⊤
FaultsWithin n (f ∷ fs) = (fault_place f ≤ n) × IsOfText f × FaultsWithin n fs

within_both : (n : ℕ) (xs ys : List Fault) → FaultsWithin n xs → FaultsWithin n ys
    → FaultsWithin n (xs ++ ys)
within_both n [] ys h k = k
within_both n (x ∷ xs) ys h k = (h.0, h.1, within_both n xs ys h.2 k)

at_of_text : (n : ℕ) (xs : List Fault) (k : ℕ) (f : Fault) → FaultsWithin n xs → k < length xs
    → slice_index_or xs k f ≡ f → IsOfText f
at_of_text n [] k f h l e = absurd (omega (arith, l))
at_of_text n (x ∷ xs) zero f h l e = subst IsOfText e h.1
at_of_text n (x ∷ xs) (suc k) f h l e = at_of_text n xs k f h.2 (omega (arith, l)) e

module _ (n : ℕ) where
  pub own_within : (held : Content) → ContentLies n held → FaultsWithin n (fault_list (own_fault held))
  own_within held h = grind arith

  pub end_within : (kind : PieceKind) (held : Content) → ContentLies n held
      → FaultsWithin n (fault_list (end_fault kind held))
  end_within kind held h = grind arith

  -- the faults of a tree lie in its places
  mutual
    node_within : (x : Node) → NodeLies n x → FaultsWithin n (node_faults x)
    node_within (node place end kind None item join) h = tt
    node_within (node place end kind (Some held) item join) h =
        within_both n _ _ (own_within held h.0) (within_both n _ _ (branch_within item h.1)
        (within_both n _ _ (branch_within join h.2) (end_within kind held h.0)))

    branch_within : (b : Branch) → BranchLies n b → FaultsWithin n (branch_faults b)
    branch_within no_branch h = tt
    branch_within (branch xs) h = forest_within xs h

    forest_within : (xs : Forest) → ForestLies n xs → FaultsWithin n (forest_faults xs)
    forest_within no_nodes h = tt
    forest_within (nodes_and x xs) h =
        within_both n _ _ (node_within x h.0) (forest_within xs h.1)

faults_lie : (a : At) (n : ℕ) → a.place + size a.text ≤ n → FaultsWithin n (text_faults a)
faults_lie a n reach = forest_within n (as_forest (nodes a)) (places_lie a n reach)

-- the first fault that a format has by itself lies in it
pub first_lies : (bs : List ℕ) → IsUtf8 bs
    → PlaceWithin (length bs) (option_map fault (first_fault (text_faults (outermost (chars bs)))))
first_lies bs utf8 = grind (arith, faults_lie, size-chars)

-- each is of such a kind
pub faults_of_text : (a : At) (f : Fault) → Contains (text_faults a) f → IsOfText f
faults_of_text a f h = grind (arith, at_of_text, faults_lie)
