-- The places that the tree of a text keeps lie in the text, and its faults are those of arguments.
use Rattle.std.proofs.Common.{◌≡◌, ℕ, ◌+◌, ◌<◌, ◌≤◌, length, arith, refl, Option, Some, None}
use Rattle.std.proofs.Common.{Result, Ok}
use Rattle.std.specs.Prelude.{⊤}
use Rattle.interpolator_syntax.specs.Nodes.{Node, node, Branch, no_branch, branch, Forest, no_nodes}
use Rattle.interpolator_syntax.specs.Nodes.{nodes_and, as_forest, nodes, Content, text_content}
use Rattle.interpolator_syntax.specs.Nodes.{argument_content, fault_content, group_branch}
use Rattle.interpolator_syntax.specs.Nodes.{item_branch, join_branch, piece_node, token_node}
use Rattle.interpolator_syntax.specs.Pieces.{argument_from, argument_or_broken, argument_step}
use Rattle.interpolator_syntax.specs.Tokens.{Token, argument, first_token, past_token}
use Rattle.interpolator_syntax.specs.{ArgumentFaults.IsArgumentFault, Arguments.Argument}
use Rattle.interpolator_syntax.specs.{Arguments.argument_at, Places.At, Places.size, Faults.Fault}
use Rattle.interpolator_syntax.specs.{Faults.fault_place, Groups.Group, Groups.inside}
use Rattle.interpolator_syntax.specs.SpecTexts.{Kind}
use Rattle.interpolator_syntax.proofs.ArgumentFaultLemmas.{fault_of_argument}
use Rattle.interpolator_syntax.proofs.GrammarArgumentLemmas.{broken_is}
use Rattle.interpolator_syntax.proofs.TokenTextLemmas.{WrittenSize, takes_token, scan_taken}
use Rattle.interpolator_syntax.proofs.LocalityLemmas.{takes_reaches}
use Rattle.interpolator_syntax.proofs.NodeLemmas.{by_length, nodes_first, nodes_none}
use Rattle.interpolator_syntax.proofs.ReaderLemmas.{argument_takes, argument_refuses}
use Rattle.interpolator_syntax.proofs.SizeLemmas.{GroupIfIn, KindIn, argument_in}
use Rattle.interpolator_syntax.proofs.TokenLemmas.{token_shorter, scan_shorter}

-- the places that a tree keeps are at most n
module _ (n : ℕ) where
  abbrev pub ContentLies : Content → Type 0
  ContentLies (text_content from cs) = from + size cs ≤ n
  ContentLies (argument_content start name spec target end) = (start ≤ n) × (end ≤ n)
  ContentLies (fault_content f) = (fault_place f ≤ n) × IsArgumentFault f

  abbrev mutual
    pub NodeLies : Node → Type 0
    NodeLies (node place end kind None item join) = ⊤
    NodeLies (node place end kind (Some held) item join) =
        ContentLies held × BranchLies item × BranchLies join

    pub BranchLies : Branch → Type 0
    BranchLies no_branch = ⊤
    BranchLies (branch xs) = ForestLies xs

    pub ForestLies : Forest → Type 0
    ForestLies no_nodes = ⊤
    ForestLies (nodes_and x xs) = NodeLies x × ForestLies xs

-- those of a text, if it ends at n or before
abbrev Lies : At → Type 0
Lies a = (n : ℕ) → a.place + size a.text ≤ n → ForestLies n (as_forest (nodes a))

module _ (b : At) (n : ℕ) (more : (c : At) → length c.text < length b.text → Lies c)
    (reach : b.place + size b.text ≤ n) where
  group_lies : (o : Option Group) → GroupIfIn o b → BranchLies n (group_branch nodes o)
  group_lies None h = tt
  group_lies (Some g) h = more (inside g) h.shorter n (omega (arith, h.lies, reach))

  kind_lies : (k : Kind) → KindIn k b
      → BranchLies n (item_branch nodes k) × BranchLies n (join_branch nodes k)
  kind_lies k h = grind (arith, group_lies)

  begins : b.place ≤ n
  begins = omega (arith, reach)

  argument_lies : (x : Argument) (q : At) → argument_at b ≡ Ok (x, q)
      → (b.place ≤ n) × (q.place ≤ n)
      × BranchLies n (item_branch nodes x.kind) × BranchLies n (join_branch nodes x.kind)
  argument_lies x q e =
      let ends = takes_reaches _ b q (argument_takes b x q e) refl in
      grind (arith, reach, ends, kind_lies x.kind (argument_in b x q e))

  step_lies : (p : ℕ) (x : Argument) (q : At) (o : Option At) → argument_at b ≡ Ok (x, q)
      → (let s = argument_step b.place b x q o in
      NodeLies n (piece_node nodes p s.rest.place s.piece.kind))
  step_lies p x q o e = grind (arith, argument_lies x q e)

  answer_lies : (p : ℕ) (r : Result (Argument × At) Fault) → argument_at b ≡ r
      → (let s = argument_or_broken b.place b r in
      NodeLies n (piece_node nodes p s.rest.place s.piece.kind))
  answer_lies p r e =
      let kind = λ (f : Fault). fault_of_argument b f in
      grind (arith, step_lies p, reach, argument_refuses b, kind, broken_is b)

  token_lies : (p : ℕ) (t : Token) → WrittenSize p t b → NodeLies n (token_node nodes p t b)
  unfolding argument_from
  token_lies p argument w = answer_lies p (argument_at b) refl
  token_lies p t w = grind (arith, reach)

lie_by : (a : At) → ((b : At) → length b.text < length a.text → Lies b) → (o : Option (Token × At))
    → first_token a ≡ o → Lies a
lie_by a shorter None e n reach = rw (nodes_none a e) tt
lie_by a shorter (Some w) e n reach =
    let rest = past_token w.0 w.1 in
    let first_reaches = takes_reaches _ a w.1 (takes_token a w e).takes refl in
    let rest_reaches = takes_reaches _ a rest (scan_taken a w e) refl in
    rw (nodes_first a w.1 w.0 e) (
      token_lies w.1 n (λ c l. shorter c (omega (arith, l, token_shorter a w e)))
          (omega (arith, reach, first_reaches)) a.place w.0 (takes_token a w e).size,
      shorter rest (scan_shorter a _ w e refl) n (omega (arith, reach, rest_reaches)),
    )

-- they lie in the text
pub places_lie : (a : At) → Lies a
places_lie = by_length Lies (λ a shorter. lie_by a shorter (first_token a) refl)
