-- The first value that does not stand.
use Rattle.std.proofs.Common.{◌≡◌, ℕ, suc, Bool, true, false, refl, sym, subst, ap, ◌∙◌, inl, inr}
use Rattle.std.proofs.Common.{Result, Ok, Err, ◌<◌, arith, length, List, [], ◌∷◌, ◌++◌, Option}
use Rattle.std.proofs.Common.{Some, None, IsSome, option_map}
use Rattle.interpolator_syntax.specs.Nodes.{Node, node, Branch, no_branch, branch, Forest, no_nodes}
use Rattle.interpolator_syntax.specs.Nodes.{nodes_and, text_content, argument_content}
use Rattle.interpolator_syntax.specs.Nodes.{fault_content, target_value, target_list, Content}
use Rattle.interpolator_syntax.specs.Nodes.{Target}
use Rattle.interpolator_syntax.specs.declared.argument_fault.ArgumentFault.{ArgumentFault}
use Rattle.interpolator_syntax.specs.declared.{piece_kind.PieceKind.PieceKind, range.Range.Range}
use Rattle.interpolator_syntax.specs.SpecTexts.{plain_spec}
use Rattle.interpolator_escapes.specs.Readers.{Token, content, structure, structure_of, state_after}
use Rattle.interpolator_escapes.specs.CodeReaders.{has_structure}
use Rattle.interpolator_escapes.specs.Formats.{Stays, NodeStands, ItemStands, JoinStands}
use Rattle.interpolator_escapes.specs.Formats.{ForestStands}
use Rattle.interpolator_escapes.specs.Placing.{NodeFails, ItemFails, JoinFails, ForestFails}
use Rattle.interpolator_escapes.specs.Placing.{NodePlaced, ItemPlaced, JoinPlaced, FillPlaced}
use Rattle.interpolator_escapes.specs.Placing.{ForestPlaced, IfMisplaced, Placed, ValueFails}
use Rattle.interpolator_render.specs.{declared.view.Spec.Spec, declared.view.Trait.Trait}
use Rattle.interpolator_render.specs.declared.view.Trait.TheVariants.{Display}
use Rattle.interpolator_pieces.specs.Stored.{branch_of, content_of, detail_of, node_of}
use Rattle.interpolator_pieces.specs.Stored.{stored_content}
use Rattle.interpolator_pieces.specs.StoredMeanings.{stored_name, stored_part}
use Rattle.interpolator_pieces.specs.{StoredLists.is_list_form, declared.piece.Form.Form}
use Rattle.interpolator_pieces.specs.declared.piece.Form.TheVariants as forms
use Rattle.interpolator_pieces.specs.declared.{piece.Piece.Piece, piece.Piece.TheViews.out-Piece}
use Rattle.interpolator_pieces.proofs.RunLemmas.{list_fits, name_fits, name_within, value_fits}
use Rattle.interpolator_pieces.proofs.StoredLemmas.{node_of_out}
use Rattle.interpolator_escapes.specs.declared.misplaced.Misplaced.{Misplaced}
use Rattle.interpolator_escapes.specs.declared.misplaced.PlaceError.{PlaceError}
use Rattle.interpolator_escapes.specs.declared.misplaced.PlaceError.TheVariants as errors
use Rattle.interpolator_escapes.specs.declared.misplaced.Why.{Why}

-- ---- a character

structured_tokens : (ts : List Token) → has_structure ts ≡ true → structure_of (ts ++ []) ≡ [] → ⊥
structured_tokens [] h k = absurd (cc)
structured_tokens (content c ∷ ts) h k = structured_tokens ts h k
structured_tokens (structure c ∷ ts) h k = absurd (cc)

quiet_tokens : (ts : List Token) → has_structure ts ≡ false → structure_of (ts ++ []) ≡ []
quiet_tokens [] h = refl
quiet_tokens (content c ∷ ts) h = quiet_tokens ts h
quiet_tokens (structure c ∷ ts) h = absurd (cc)

module _ {S : Type 0} (step : S → ℕ → S × List Token) (s : S) (c : ℕ) where
  pub structured : has_structure (step s c).1 ≡ true → Stays step s (c ∷ []) → ⊥
  structured h k = structured_tokens (step s c).1 h k.1

  pub quiet : has_structure (step s c).1 ≡ false → structure_of ((step s c).1 ++ []) ≡ []
  quiet h = quiet_tokens (step s c).1 h

module _ {S : Type 0} (step : S → ℕ → S × List Token) (is_place : S → Trait → Spec → Bool) where
  -- ---- pieces leave a reader in one state

  node_once : (x : Node) (s t u : S) → NodeStands step is_place s x t
      → NodeStands step is_place s x u → t ≡ u
  node_once (node place end kind None item join) s t u h k = h ∙ sym k
  node_once (node place end kind (Some (text_content from cs)) item join) s t u h k = h ∙ sym k
  node_once (node place end kind (Some (fault_content f)) item join) s t u h k = h ∙ sym k
  node_once (node place end kind (Some (argument_content start name spec (target_value w) q))
      item join) s t u h k =
      h.1 ∙ sym k.1
  node_once (node place end kind (Some (argument_content start name spec (target_list range) q))
      item join) s t u h k =
      h.3 ∙ sym k.3

  forest_once : (xs : Forest) (s t u : S) → ForestStands step is_place s xs t
      → ForestStands step is_place s xs u → t ≡ u
  forest_once no_nodes s t u h k = h ∙ sym k
  forest_once (nodes_and x xs) s t u h k =
      forest_once xs h.0 t u h.2 (rw (node_once x s h.0 k.0 h.1 k.1) k.2)

  -- ---- what fails does not stand

  place_or_not : (s : S) (t : Trait) (spec : Spec) → is_place s t spec ≡ false
      → is_place s t spec ≡ true → ⊥
  place_or_not s t spec h k = absurd (cc)

  mutual
    node_fails : (x : Node) (s t : S) (m : Misplaced) → NodeFails step is_place s x m
        → NodeStands step is_place s x t → ⊥
    node_fails (node place end kind None item join) s t m f h = f
    node_fails (node place end kind (Some (text_content from cs)) item join) s t m f h = f
    node_fails (node place end kind (Some (fault_content g)) item join) s t m f h = f
    node_fails (node place end kind (Some (argument_content start name spec (target_value w) q))
        item join) s t m f h =
        place_or_not s w spec f.0 h.0
    node_fails (node place end kind (Some (argument_content start name spec (target_list range) q))
        item join) s t m (inl f) h =
        item_fails item place s m f h.0
    node_fails (node place end kind (Some (argument_content start name spec (target_list range) q))
        item join) s t m (inr (inl f)) h =
        join_fails join place s m f.1 h.1
    node_fails (node place end kind (Some (argument_content start name spec (target_list range) q))
        item join) s t m (inr (inr f)) h =
        f.2.0 h.2

    item_fails : (b : Branch) (place : ℕ) (s : S) (m : Misplaced)
        → ItemFails step is_place place s b m → ItemStands step is_place s b → ⊥
    item_fails no_branch place s m f h = place_or_not s Display plain_spec f.0 h
    item_fails (branch xs) place s m (inl f) h = forest_fails xs s s m f h
    item_fails (branch xs) place s m (inr f) h = f.2 (forest_once xs s f.0 s f.1 h)

    join_fails : (b : Branch) (place : ℕ) (s : S) (m : Misplaced)
        → JoinFails step is_place place s b m → JoinStands step is_place s b → ⊥
    join_fails no_branch place s m f h = f
    join_fails (branch xs) place s m (inl f) h = forest_fails xs s s m f h
    join_fails (branch xs) place s m (inr f) h = f.2 (forest_once xs s f.0 s f.1 h)

    pub forest_fails : (xs : Forest) (s t : S) (m : Misplaced) → ForestFails step is_place s xs m
        → ForestStands step is_place s xs t → ⊥
    forest_fails no_nodes s t m f h = f
    forest_fails (nodes_and x xs) s t m (inl f) h = node_fails x s h.0 m f h.1
    forest_fails (nodes_and x xs) s t m (inr f) h =
        forest_fails xs f.0 t m f.2 (rw (node_once x s f.0 h.0 f.1 h.1) h.2)

  -- ---- one piece, and others after it

  pub placed_next : (s u t : S) (x : Node) (xs : Forest) (answer : Result (Unit {0}) PlaceError)
      → NodeStands step is_place s x u → ForestPlaced step is_place u xs t answer
      → ForestPlaced step is_place s (nodes_and x xs) t answer
  placed_next s u t x xs (Ok a) h k = (u, h, k)
  placed_next s u t x xs (Err (errors.Misplaced m)) h k = inr (u, h, k)
  placed_next s u t x xs (Err errors.NoMemory) h k = tt

  pub placed_stop : (s u t : S) (x : Node) (xs : Forest) (e : PlaceError)
      → NodePlaced step is_place s x u (Err e)
      → ForestPlaced step is_place s (nodes_and x xs) t (Err e)
  placed_stop s u t x xs (errors.Misplaced m) h = inl h
  placed_stop s u t x xs errors.NoMemory h = tt

-- ---- a list, by its parts

module _ {S : Type 0} (step : S → ℕ → S × List Token) (is_place : S → Trait → Spec → Bool) (s : S)
    (place end : ℕ) (kind : PieceKind) (start : ℕ) (name : List ℕ) (spec : Spec)
    (range : Option Range) (q : ℕ) (item join : Branch) where
  abbrev ListPlaced : Result (Unit {0}) PlaceError → Type 0
  ListPlaced =
      NodePlaced step is_place s
      (node place end kind (Some (argument_content start name spec (target_list range) q)) item
      join) s

  item_stops : (e : PlaceError) → ItemPlaced step is_place place s item (Err e) → ListPlaced (Err e)
  item_stops (errors.Misplaced m) h = inl h
  item_stops errors.NoMemory h = tt

  join_stops : (e : PlaceError) → ItemStands step is_place s item
      → JoinPlaced step is_place place s join (Err e) → ListPlaced (Err e)
  join_stops (errors.Misplaced m) i h = inr (inl (i, h))
  join_stops errors.NoMemory i h = tt

  fill_last : (answer : Result (Unit {0}) PlaceError) → ItemStands step is_place s item
      → JoinStands step is_place s join → FillPlaced step is_place place s spec answer
      → ListPlaced answer
  fill_last (Ok a) i j h = (i, j, h, refl)
  fill_last (Err (errors.Misplaced m)) i j h = inr (inr (i, j, h))
  fill_last (Err errors.NoMemory) i j h = tt

-- ---- a stored piece, by its form

pub named : (f : List ℕ → Content) (o : Option (List ℕ)) → IsSome (option_map f o)
    → (name : List ℕ) × (option_map f o ≡ Some (f name))
named f None h = absurd (cc)
named f (Some name) h = (name, refl)

pub range_of : (form : Form) → is_list_form form ≡ true
    → (range : Option Range) × (form ≡ forms.List range)
range_of (forms.List range) h = (range, refl)
range_of forms.Text h = absurd (cc)
range_of forms.Plain h = absurd (cc)
range_of (forms.Value t) h = absurd (cc)
range_of (forms.Broken fault) h = absurd (cc)

module _ {S : Type 0} (step : S → ℕ → S × List Token) (is_place : S → Trait → Spec → Bool) (bs : List ℕ)
    (x : Piece) (s : S) where
  abbrev Reported : S → Result (Unit {0}) PlaceError → Type 0
  Reported t answer = NodePlaced step is_place s (node_of bs x) t answer

  abbrev place_of : ℕ
  place_of = (out-Piece x).place

  pub text_reported : (t : S) (cs : List ℕ) (answer : Result (Unit {0}) PlaceError)
      → (detail_of x).form ≡ forms.Text → Some cs ≡ stored_part bs x
      → Placed (t ≡ state_after step s cs) (λ _. ⊥) answer → Reported t answer
  text_reported t cs answer form part h = rw (node_of_out bs x, form, ← part) h

  pub broken_reported : (fault : ArgumentFault) → (detail_of x).form ≡ forms.Broken fault
      → Reported s (Ok tt)
  broken_reported fault form = rw (node_of_out bs x, form) refl

  -- the node, if it holds a value or a list
  abbrev holding : (name : List ℕ) → Spec → Target → Node
  holding name spec target =
      node place_of (out-Piece x).end (out-Piece x).kind
      (Some (argument_content (suc place_of) name spec target (detail_of x).spec_end))
      (branch_of bs (out-Piece x).item) (branch_of bs (out-Piece x).join)

  value_answer : (name : List ℕ) (spec : Spec) (w : Trait) (answer : Result (Unit {0}) PlaceError)
      → Placed (is_place s w spec ≡ true) (ValueFails step is_place place_of s w spec) answer
      → NodePlaced step is_place s (holding name spec (target_value w)) s answer
  value_answer name spec w (Ok a) h = (h, refl)
  value_answer name spec w (Err (errors.Misplaced m)) h = h
  value_answer name spec w (Err errors.NoMemory) h = tt

  module _ (held : IsSome (content_of bs x)) where
    pub value_reported : (w : Trait) (spec : Spec) (answer : Result (Unit {0}) PlaceError)
        → (detail_of x).form ≡ forms.Value w → spec ≡ (detail_of x).spec
        → Placed (is_place s w spec ≡ true) (ValueFails step is_place place_of s w spec) answer
        → Reported s answer
    value_reported w spec answer form same h =
        let n = named _ _ (rw form at held) in
        rw (node_of_out bs x, form, n.1)
        (value_answer n.0 (detail_of x).spec w answer (rw same at h))

    pub plain_reported : (answer : Result (Unit {0}) PlaceError) → (detail_of x).form ≡ forms.Plain
        → Placed (is_place s Display plain_spec ≡ true)
        (ValueFails step is_place place_of s Display plain_spec) answer → Reported s answer
    plain_reported answer form h =
        let n = named _ _ (rw form at held) in
        rw (node_of_out bs x, form, n.1) (value_answer n.0 plain_spec Display answer h)

    module _ (listed : is_list_form (detail_of x).form ≡ true) where
      abbrev item : Branch
      item = branch_of bs (out-Piece x).item

      abbrev join : Branch
      join = branch_of bs (out-Piece x).join

      list_of : (range : Option Range) → (detail_of x).form ≡ forms.List range
          → (name : List ℕ)
          × (content_of bs x ≡ Some (argument_content (suc place_of) name (detail_of x).spec
          (target_list range) (detail_of x).spec_end))
      list_of range form =
          let n = named _ _ (rw form at held) in
          let reported : content_of bs x
          ≡ stored_content bs place_of (detail_of x).from (detail_of x).to (detail_of x).spec_end
          (detail_of x).spec (forms.List range) = rw form refl in
          (n.0, reported ∙ n.1)

      list_node : (name : List ℕ) × (range : Option Range)
          × (holding name (detail_of x).spec (target_list range) ≡ node_of bs x)
      list_node =
          let r = range_of (detail_of x).form listed in
          let n = list_of r.0 r.1 in
          let y = out-Piece x in
          let of = λ (content : Option Content). node y.place y.end y.kind content item join in
          (n.0, r.0, sym (node_of_out bs x ∙ ap of n.1))

      pub item_reported : (e : PlaceError) → ItemPlaced step is_place place_of s item (Err e)
          → Reported s (Err e)
      item_reported e h =
          let n = list_node in
          subst (λ y. NodePlaced step is_place s y s (Err e)) n.2
          (item_stops step is_place s place_of (out-Piece x).end (out-Piece x).kind
          (suc place_of) n.0 (detail_of x).spec n.1 (detail_of x).spec_end item join e h)

      pub join_reported : (e : PlaceError) → ItemStands step is_place s item
          → JoinPlaced step is_place place_of s join (Err e) → Reported s (Err e)
      join_reported e i h =
          let n = list_node in
          subst (λ y. NodePlaced step is_place s y s (Err e)) n.2
          (join_stops step is_place s place_of (out-Piece x).end (out-Piece x).kind
          (suc place_of) n.0 (detail_of x).spec n.1 (detail_of x).spec_end item join e i h)

      pub fill_reported : (answer : Result (Unit {0}) PlaceError) (spec : Spec)
          → spec ≡ (detail_of x).spec → ItemStands step is_place s item
          → JoinStands step is_place s join → FillPlaced step is_place place_of s spec answer
          → Reported s answer
      fill_reported answer spec same i j h =
          let n = list_node in
          let fills = subst (λ y. FillPlaced step is_place place_of s y answer) same h in
          subst (λ y. NodePlaced step is_place s y s answer) n.2
          (fill_last step is_place s place_of (out-Piece x).end (out-Piece x).kind
          (suc place_of) n.0 (detail_of x).spec n.1 (detail_of x).spec_end item join answer i j
          fills)

-- ---- places

-- what begins at `place` lies in a text of n bytes
pub lies : (A stands : Type 0) (why : Why) (place n : ℕ) (answer : Result (Unit {0}) PlaceError)
    → place < n → Placed stands (λ m. A × (m ≡ record { place = place; why = why })) answer
    → IfMisplaced answer (λ m. m.place < n)
lies A stands why place n (Ok a) l h = tt
lies A stands why place n (Err (errors.Misplaced m)) l h =
    let same : m.place ≡ place = ap (λ (x : Misplaced). x.place) h.1 in omega (arith, same, l)
lies A stands why place n (Err errors.NoMemory) l h = tt

-- so does an argument
module _ (bs : List ℕ) (x : Piece) (held : IsSome (content_of bs x)) where
  abbrev Lies : Type 0
  Lies = (out-Piece x).place < length bs

  name_lies : IsSome (stored_name bs x) → Lies
  name_lies h =
      let n = name_within bs (out-Piece x).place (detail_of x).from (detail_of x).to h in
      omega (arith, n)

  pub plain_lies : (detail_of x).form ≡ forms.Plain → Lies
  plain_lies form = name_lies (name_fits bs x form held)

  pub value_lies : (w : Trait) → (detail_of x).form ≡ forms.Value w → Lies
  value_lies w form = name_lies (value_fits bs x w form held)

  pub list_lies : is_list_form (detail_of x).form ≡ true → Lies
  list_lies listed =
      let r = range_of (detail_of x).form listed in name_lies (list_fits bs x r.0 r.1 held)

-- ---- a whole text

module _ {S : Type 0} (step : S → ℕ → S × List Token) (is_place : S → Trait → Spec → Bool) where
  -- what fails does not stand, whatever state it ends in
  pub refused : (s u : S) (xs : Forest) (e : PlaceError)
      → ForestPlaced step is_place s xs u (Err e)
      → IfMisplaced {A = Unit {0}} (Err e) (λ m. (t : S) → ForestStands step is_place s xs t → ⊥)
  refused s u xs (errors.Misplaced m) h = λ t k. forest_fails step is_place xs s t m h k
  refused s u xs errors.NoMemory h = tt
