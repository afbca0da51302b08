-- A format of records whose values stand, and where in it the first is that does not.
use Rattle.std.proofs.Common.{◌≡◌, ℕ, ◌+◌, ◌<◌, ◌≤◌, Bool, true, false, List, [], ◌∷◌, length}
use Rattle.std.proofs.Common.{arith, refl, Option, Some, None, Result, Ok, Err, if◌then◌else◌}
use Rattle.std.proofs.Common.{chars, IsUtf8}
use Rattle.std.specs.Prelude.{⊤}
use Rattle.interpolator_render.specs.{declared.view.Spec.Spec, declared.view.Trait.Trait}
use Rattle.interpolator_render.specs.declared.view.Trait.TheVariants.{Display}
use Rattle.interpolator_syntax.specs.Places.{At, outermost, size, strip}
use Rattle.interpolator_syntax.specs.Nodes.{Node, node, Branch, no_branch, branch, Forest, no_nodes}
use Rattle.interpolator_syntax.specs.Nodes.{nodes_and, as_forest, nodes, text_content}
use Rattle.interpolator_syntax.specs.Nodes.{argument_content, fault_content, group_branch}
use Rattle.interpolator_syntax.specs.Nodes.{item_branch, join_branch, piece_node, token_node}
use Rattle.interpolator_syntax.specs.Nodes.{target_value, target_list}
use Rattle.interpolator_syntax.specs.Pieces.{argument_from, argument_or_broken, argument_step}
use Rattle.interpolator_syntax.specs.Tokens.{Token, argument, first_token, past_token}
use Rattle.interpolator_syntax.specs.{Arguments.Argument, Arguments.argument_at}
use Rattle.interpolator_syntax.specs.{Classes.close_brace, Faults.Fault, Groups.Group}
use Rattle.interpolator_syntax.specs.{Groups.inside, SpecTexts.Kind, SpecTexts.plain_spec}
use Rattle.interpolator_syntax.proofs.NodeLemmas.{by_length, nodes_first, nodes_none}
use Rattle.interpolator_syntax.proofs.SizeLemmas.{GroupIfIn, KindIn, argument_in}
use Rattle.interpolator_syntax.proofs.TokenLemmas.{token_shorter, scan_shorter}
use Rattle.interpolator_syntax.proofs.TokenTextLemmas.{WrittenSize, takes_token, scan_taken}
use Rattle.interpolator_syntax.proofs.{CharacterLemmas.size-chars, LocalityLemmas.takes_reaches}
use Rattle.interpolator_escapes.specs.RecordFormats.{Spot, in_state, field_end, after_literal}
use Rattle.interpolator_escapes.specs.RecordFormats.{after_value, after_node, after_item}
use Rattle.interpolator_escapes.specs.RecordFormats.{after_join, after_forest, after_record}
use Rattle.interpolator_escapes.specs.RecordFormats.{and_then, covers, is_field_place, list_end}
use Rattle.interpolator_escapes.specs.RecordFormats.{is_quoted_place, record_answer}
use Rattle.interpolator_escapes.specs.{Csv.ends_field, declared.ending.Ending.Ending}
use Rattle.interpolator_escapes.specs.declared.misplaced.Misplaced.{Misplaced}
use Rattle.interpolator_escapes.specs.declared.misplaced.PlaceError.{PlaceError}
use Rattle.interpolator_escapes.specs.declared.misplaced.PlaceError.TheVariants as errors
use Rattle.interpolator_escapes.specs.Placing.{IfMisplaced}

-- ---- the arguments of a text begin in it

-- those of a tree begin before n
module _ (n : ℕ) where
  abbrev mutual
    NodeBegins : Node → Type 0
    NodeBegins (node place end kind (Some (argument_content start name spec target q)) item join) =
        (place < n) × BranchBegins item × BranchBegins join
    NodeBegins _ = ⊤

    BranchBegins : Branch → Type 0
    BranchBegins no_branch = ⊤
    BranchBegins (branch xs) = ForestBegins xs

    ForestBegins : Forest → Type 0
    ForestBegins no_nodes = ⊤
    ForestBegins (nodes_and x xs) = NodeBegins x × ForestBegins xs

-- those of a text do, if it ends at n or before
abbrev Begins : At → Type 0
Begins a = (n : ℕ) → a.place + size a.text ≤ n → ForestBegins n (as_forest (nodes a))

module _ (b : At) (n : ℕ) (more : (c : At) → length c.text < length b.text → Begins c)
    (reach : b.place + size b.text ≤ n) where
  group_begins : (o : Option Group) → GroupIfIn o b → BranchBegins n (group_branch nodes o)
  group_begins None h = tt
  group_begins (Some g) h = more (inside g) h.shorter n (omega (arith, h.lies, reach))

  kind_begins : (k : Kind) → KindIn k b
      → BranchBegins n (item_branch nodes k) × BranchBegins n (join_branch nodes k)
  kind_begins k h = grind (arith, group_begins)

  step_begins : (p : ℕ) → p < n → (x : Argument) (q : At) (o : Option At)
      → argument_at b ≡ Ok (x, q)
      → (let s = argument_step b.place b x q o in
      NodeBegins n (piece_node nodes p s.rest.place s.piece.kind))
  step_begins p l x q None e =
      let groups = kind_begins x.kind (argument_in b x q e) in (l, groups.0, groups.1)
  step_begins p l x q (Some rest) e =
      let groups = kind_begins x.kind (argument_in b x q e) in (l, groups.0, groups.1)

  answer_begins : (p : ℕ) → p < n → (r : Result (Argument × At) Fault) → argument_at b ≡ r
      → (let s = argument_or_broken b.place b r in
      NodeBegins n (piece_node nodes p s.rest.place s.piece.kind))
  answer_begins p l (Ok w) e = step_begins p l w.0 w.1 (strip close_brace w.1) e
  answer_begins p l (Err f) e = tt

  token_begins : (p : ℕ) (t : Token) → WrittenSize p t b → NodeBegins n (token_node nodes p t b)
  unfolding argument_from
  token_begins p argument w = answer_begins p (omega (arith, w, reach)) (argument_at b) refl
  token_begins p t w = tt

begin_by : (a : At) → ((b : At) → length b.text < length a.text → Begins b)
    → (o : Option (Token × At)) → first_token a ≡ o → Begins a
begin_by a shorter None e n reach = rw (nodes_none a e) tt
begin_by a shorter (Some w) e n reach =
    let rest = past_token w.0 w.1 in
    let first_reaches = takes_reaches _ a w.1 (takes_token a w e).takes refl in
    let rest_reaches = takes_reaches _ a rest (scan_taken a w e) refl in
    rw (nodes_first a w.1 w.0 e) (
      token_begins w.1 n (λ c l. shorter c (omega (arith, l, token_shorter a w e)))
          (omega (arith, reach, first_reaches)) a.place w.0 (takes_token a w e).size,
      shorter rest (scan_shorter a _ w e refl) n (omega (arith, reach, rest_reaches)),
    )

arguments_begin : (a : At) → Begins a
arguments_begin = by_length Begins (λ a shorter. begin_by a shorter (first_token a) refl)

-- ---- so what is told of a record lies in its text

module _ (n : ℕ) where
  abbrev SpotLies : Spot → Type 0
  SpotLies (in_state s) = ⊤
  SpotLies (field_end place) = place < n

  abbrev AnswerLies : Result Spot Misplaced → Type 0
  AnswerLies (Ok s) = SpotLies s
  AnswerLies (Err m) = m.place < n

  choice_lies : (b : Bool) (x y : Result Spot Misplaced) → AnswerLies x → AnswerLies y
      → AnswerLies (if b then x else y)
  choice_lies true x y h k = h
  choice_lies false x y h k = k

  then_lies : (r : Result Spot Misplaced) (next : Spot → Result Spot Misplaced) → AnswerLies r
      → ((t : Spot) → SpotLies t → AnswerLies (next t)) → AnswerLies (and_then r next)
  then_lies (Ok t) next h k = k t h
  then_lies (Err m) next h k = h

  literal_lies : (s : Spot) (cs : List ℕ) → SpotLies s → AnswerLies (after_literal s cs)
  literal_lies (in_state s) cs h = tt
  literal_lies (field_end place) [] h = h
  literal_lies (field_end place) (c ∷ cs) h = choice_lies (ends_field c) _ _ tt h

  value_lies : (place : ℕ) (s : Spot) (t : Trait) (spec : Spec) → place < n → SpotLies s
      → AnswerLies (after_value place s t spec)
  value_lies place s t spec l h =
      choice_lies (is_field_place s t spec) _ _ l
      (choice_lies (is_quoted_place s t) (Ok s) _ h l)

  end_lies : (place : ℕ) (width : Option ℕ) (t : Spot) → place < n → SpotLies t
      → AnswerLies (list_end place width t)
  end_lies place None t l h = h
  end_lies place (Some width) t l h = l

  mutual
    node_lies : (x : Node) (s : Spot) → NodeBegins n x → SpotLies s → AnswerLies (after_node s x)
    node_lies (node place end kind None item join) s b h = h
    node_lies (node place end kind (Some (text_content from cs)) item join) s b h =
        literal_lies s cs h
    node_lies (node place end kind (Some (fault_content f)) item join) s b h = h
    node_lies (node place end kind (Some (argument_content start name spec (target_value t) q))
        item join) s b h =
        value_lies place s t spec b.0 h
    node_lies (node place end kind (Some (argument_content start name spec (target_list range) q))
        item join) s b h =
        then_lies _ _
        (then_lies _ _ (item_lies item place s b.0 b.1 h)
        (λ t l. choice_lies (covers t s) (Ok t) _ l b.0))
        (λ t l. then_lies _ _
        (then_lies _ _ (join_lies join t b.2 l) (λ u m. choice_lies (covers s u) (Ok t) _ l b.0))
        (λ u m. end_lies place spec.width u b.0 m))

    item_lies : (item : Branch) (place : ℕ) (s : Spot) → place < n → BranchBegins n item
        → SpotLies s → AnswerLies (after_item place s item)
    item_lies no_branch place s l b h = value_lies place s Display plain_spec l h
    item_lies (branch xs) place s l b h = forest_lies xs s b h

    join_lies : (join : Branch) (s : Spot) → BranchBegins n join → SpotLies s
        → AnswerLies (after_join s join)
    join_lies no_branch s b h = h
    join_lies (branch xs) s b h = forest_lies xs s b h

    forest_lies : (xs : Forest) (s : Spot) → ForestBegins n xs → SpotLies s
        → AnswerLies (after_forest s xs)
    forest_lies no_nodes s b h = h
    forest_lies (nodes_and x xs) s b h =
        then_lies _ _ (node_lies x s b.0 h) (λ t l. forest_lies xs t b.1 l)

-- ---- by the answer of a check

pub stands : (r : Result Spot Misplaced) (ending : Ending) → Ok ending ≡ record_answer r
    → (t : Spot) × (r ≡ Ok t)
stands (Ok t) ending e = (t, refl)
stands (Err m) ending e = absurd (cc)

reported : (n : ℕ) (A : Type 0) (r : Result Spot Misplaced) (error : PlaceError) → AnswerLies n r
    → Err error ≡ record_answer r → IfMisplaced {A = A} (Err error) (λ m. m.place < n)
reported n A (Ok t) error h e = absurd (cc)
reported n A (Err m) error h e = let same : errors.Misplaced m ≡ error = cc in rw (← same) h

pub reported_within : (A : Type 0) (bs : List ℕ) → IsUtf8 bs → (error : PlaceError)
    → Err error ≡ record_answer (after_record (outermost (chars bs)))
    → IfMisplaced {A = A} (Err error) (λ m. m.place < length bs)
reported_within A bs utf8 error e =
    let a = outermost (chars bs) in
    reported (length bs) A (after_record a) error
    (forest_lies (length bs) (as_forest (nodes a)) _
    (arguments_begin a (length bs) (omega (arith, size-chars bs utf8))) tt) e
