-- The steps that stand for the pieces of a text.
use Rattle.std.proofs.Common.{◌≡◌, ◌≢◌, ◌∙◌, refl, sym, ap, arith, ℕ, zero, suc, ◌≤◌, List, [], ◌∷◌}
use Rattle.std.proofs.Common.{◌++◌, map, Option, None, Some, IsSome, true, false, Bool, length}
use Rattle.std.proofs.Common.{drop, take}
use Rattle.std.proofs.lemmas.List.{append-nil, append_assoc}
use Rattle.std.specs.Prelude.{⊤, ◌+◌, Result, Ok, Err, IfOk, unwrap_or, if◌then◌else◌}
use Rattle.std.specs.{List.All, Str.encode_utf8_all}
use Rattle.interpolator_render.specs.{declared.view.Spec.Spec, declared.view.Trait.Trait}
use Rattle.interpolator_render.specs.declared.view.Trait.TheVariants as traits
use Rattle.interpolator_syntax.specs.Places.{Placed, placed_from}
use Rattle.interpolator_syntax.specs.Nodes.{Node, node, Branch, Content, argument_content}
use Rattle.interpolator_syntax.specs.Nodes.{target_value, as_forest}
use Rattle.interpolator_syntax.specs.{SpecTexts.plain_spec, declared.piece_kind.PieceKind.PieceKind}
use Rattle.interpolator_syntax.specs.declared.piece_kind.PieceKind.TheVariants as kinds
use Rattle.interpolator_pieces.specs.Stored.{stored_content, content_of, node_of, nodes_of}
use Rattle.interpolator_pieces.specs.Stored.{node_whole, forest_whole, detail_of}
use Rattle.interpolator_pieces.specs.StoredMeanings.{stored_name, stored_part}
use Rattle.interpolator_pieces.specs.declared.piece.Form.{Form}
use Rattle.interpolator_pieces.specs.declared.piece.Form.TheVariants as forms
use Rattle.interpolator_pieces.specs.declared.{piece.Piece.Piece, piece.Piece.TheViews.out-Piece}
use Rattle.interpolator_pieces.proofs.RunLemmas.{text_fits, text_held, name_held, value_held}
use Rattle.interpolator_pieces.proofs.RunLemmas.{name_fits, value_fits}
use Rattle.interpolator_pieces.proofs.StoredLemmas.{node_of_out}
use Rattle.interpolator_pieces.proofs.WholePieceLemmas.{both, fits_text, pieces_whole}
use Rattle.interpolator_prepared.specs.Programs.{Instruction, text_step, value_step, whole_step}
use Rattle.interpolator_prepared.specs.Programs.{text_before, node_before, program}
use Rattle.interpolator_prepared.specs.Programs.{content_position, node_position, step_at}
use Rattle.interpolator_prepared.specs.Programs.{argument_step}
use Rattle.interpolator_prepared.specs.StoredSteps.{first_step, is_text, is_text_form, step_of}
use Rattle.interpolator_prepared.specs.StoredSteps.{steps_of, text_count, texts_after, texts_placed}
use Rattle.interpolator_prepared.specs.{Rows.last_position, declared.step.Step.Step}
use Rattle.interpolator_prepared.proofs.JoinedLemmas.{on_test, with_value}
use Rattle.interpolator_prepared.proofs.StepLemmas.{alone}

-- the forms that are neither a name nor a value
abbrev pub IsOther : Form → Type 0
IsOther forms.Text = ⊤
IsOther forms.Plain = ⊥
IsOther (forms.Value t) = ⊥
IsOther (forms.List range) = ⊤
IsOther (forms.Broken f) = ⊤

-- what holds for an item and for all of a list
and_all : {A : Type 0} (P : A → Type 0) (x : A) (xs : List A) → P x → All P xs
    → All P (x ∷ xs)
and_all P x xs first later zero d l = first
and_all P x xs first later (suc k) d l = later k d (omega (arith, l))

-- a step that stands for an instruction with every text stands for it with this one
pub if_same :
    {E : Type 0} (r : Result Step E) (bs : List ℕ) (a : List ℕ → Option Instruction)
    (b : Option Instruction) → a bs ≡ b
    → IfOk r (λ x. (cs : List ℕ) → step_of cs x ≡ a cs) → IfOk r (λ x. step_of bs x ≡ b)
if_same (Ok x) bs a b e h = h bs ∙ e
if_same (Err y) bs a b e h = tt

-- there are at most so many texts at the beginning of pieces as pieces
pub text_count_le : (xs : List Piece) → text_count xs ≤ length xs
text_count_le [] = omega arith
text_count_le (x ∷ xs) = grind (arith, text_count_le xs)

-- a name is the part that is stored of it
pub named_part : (b : Bool) (o : Option (List ℕ)) (name : List ℕ)
    → (if b then o else None) ≡ Some name → o ≡ Some name
named_part b o name h = grind (arith, h)

-- and it is cut from the text
pub part_fits : (b : Bool) (o : Option (List ℕ)) → IsSome (if b then o else None) → IsSome o
part_fits b o h = grind (arith, h)

-- ---- arguments

-- after the texts at the beginning comes no text
no_text_next : (xs : List Piece) (y : Piece) (ys : List Piece)
    → drop (text_count xs) xs ≡ y ∷ ys → is_text y ≡ false
no_text_next [] y ys h = absurd (cc)
no_text_next (x ∷ xs) y ys h =
    on_test (is_text x) (λ is. no_text_next xs y ys (rw is at h)) (λ is.
    let all : x ∷ xs ≡ y ∷ ys = rw is at h in let same : x ≡ y = cc in rw (← same) is)

-- instructions that were added to others
added_one : {A : Type 0} (old new ys zs all : List A) → new ≡ old ++ ys → ys ++ zs ≡ all
    → new ++ zs ≡ old ++ all
added_one old new ys zs all added is =
    rw added (append_assoc old ys zs ∙ ap (λ os. old ++ os) is)

module _ (names : List (List ℕ)) where
  -- an argument before steps is one step more
  abbrev Precedes : Node → Type 0
  Precedes x = (steps : List Instruction)
      → node_before names x steps ≡ argument_step names (node_position names x) x ∷ steps

  by_form :
      (bs : List ℕ) (place end : ℕ) (kind : PieceKind) (item join : Branch) (from to q : ℕ)
      (spec : Spec) (form : Form) → form ≢ forms.Text
      → Precedes (node place end kind (stored_content bs place from to q spec form) item join)
  by_form bs place end kind item join from to q spec form h steps = grind (arith, h)

  pub argument_precedes :
      (bs : List ℕ) (x : Piece) → (detail_of x).form ≢ forms.Text → Precedes (node_of bs x)
  argument_precedes bs x h steps =
      let y = out-Piece x in
      let d = detail_of x in
      rw (node_of_out bs x)
      (by_form bs y.place y.end y.kind _ _ d.from d.to d.spec_end d.spec d.form h steps)

  -- ---- text

  -- an argument stays apart from the text before it
  argument_apart : (o : Option ℕ) (x : Node) (ds : Placed) (steps : List Instruction)
      → text_before ds (argument_step names o x ∷ steps)
      ≡ text_step ds ∷ (argument_step names o x ∷ steps)
  argument_apart o x ds steps = grind arith

  module _ (bs : List ℕ) where
    abbrev Program : List Piece → List Instruction
    Program xs = program names (nodes_of bs xs)

    abbrev Whole : List Piece → Type 0
    Whole xs = forest_whole (as_forest (nodes_of bs xs)) ≡ true

    pub first_whole : (x : Piece) (xs : List Piece) → Whole (x ∷ xs)
        → (node_whole (node_of bs x) ≡ true) × Whole xs
    first_whole x xs h = both (node_whole (node_of bs x)) (forest_whole (as_forest (nodes_of bs xs))) h

    pub text_form : (form : Form) → is_text_form form ≡ true → form ≡ forms.Text
    text_form form h = grind (arith, h)

    other_form : (form : Form) → is_text_form form ≡ false → form ≢ forms.Text
    other_form form h e = let t : is_text_form form ≡ true = ap is_text_form e in cc

    -- text fits its format
    pub text_part : (x : Piece) → is_text x ≡ true → node_whole (node_of bs x) ≡ true
        → IsSome (stored_part bs x)
    text_part x is whole = text_fits bs x (text_form (detail_of x).form is) (fits_text bs x whole).held

    -- the steps of text, and of what is after it
    text_first : (x : Piece) (steps : List Instruction) → is_text x ≡ true
        → node_whole (node_of bs x) ≡ true
        → node_before names (node_of bs x) steps ≡ text_before (texts_placed bs (x ∷ [])) steps
    text_first x steps is whole =
        with_value (stored_part bs x) (text_part x is whole) (λ cs e.
        rw (node_of_out bs x, text_held bs x cs (text_form (detail_of x).form is) (sym e), e)
        (ap (λ ds. text_before ds steps) (sym (append-nil (placed_from (detail_of x).from cs)))))

    -- text before the program of pieces is joined to the text at their beginning
    texts_join : (xs : List Piece) (ds : Placed) → Whole xs
        → text_before ds (Program xs)
        ≡ text_step (ds ++ texts_placed bs (take (text_count xs) xs)) ∷ Program (drop (text_count xs) xs)
    texts_join [] ds whole = ap (λ es. text_step es ∷ []) (sym (append-nil ds))
    texts_join (x ∷ xs) ds whole =
        let wholes = first_whole x xs whole in
        on_test (is_text x) (λ is.
        rw (
          text_first x (Program xs) is wholes.0,
          is,
          texts_join xs (texts_placed bs (x ∷ [])) wholes.1,
        )
        (ap (λ es. text_step (ds ++ es) ∷ Program (drop (text_count xs) xs))
        (append_assoc (placed_from (detail_of x).from (unwrap_or (stored_part bs x) [])) []
        (texts_placed bs (take (text_count xs) xs))))) (λ is.
        let apart = argument_apart (node_position names (node_of bs x)) (node_of bs x) ds (Program xs) in
        let first = argument_precedes bs x (other_form (detail_of x).form is) (Program xs) in
        rw (is, first) (apart ∙ ap (λ es. text_step es
        ∷ (argument_step names (node_position names (node_of bs x)) (node_of bs x) ∷ Program xs))
        (sym (append-nil ds))))

    -- the first step of pieces, and the program of those after it
    pub program_first : (x : Piece) (xs : List Piece) → Whole (x ∷ xs)
        → Program (x ∷ xs)
        ≡ first_step bs names x (take (texts_after x xs) xs) ∷ Program (drop (texts_after x xs) xs)
    program_first x xs whole =
        let wholes = first_whole x xs whole in
        on_test (is_text x) (λ is.
        rw (
          text_first x (Program xs) is wholes.0,
          is,
          texts_join xs (texts_placed bs (x ∷ [])) wholes.1,
        )
        (ap (λ es. text_step es ∷ Program (drop (text_count xs) xs))
        (append_assoc (placed_from (detail_of x).from (unwrap_or (stored_part bs x) [])) []
        (texts_placed bs (take (text_count xs) xs)))))
        (λ is. rw is (argument_precedes bs x (other_form (detail_of x).form is) (Program xs)))

    abbrev Fits : Piece → Type 0
    Fits x = IsSome (stored_part bs x)

    -- if pieces fit their format, so do the texts at their beginning
    pub texts_fit : (xs : List Piece) → Whole xs → All Fits (take (text_count xs) xs)
    texts_fit [] whole = λ k d l. absurd (omega (arith, l))
    texts_fit (x ∷ xs) whole =
        let wholes = first_whole x xs whole in
        on_test (is_text x) (λ is. rw is (and_all Fits x (take (text_count xs) xs)
        (text_part x is wholes.0) (texts_fit xs wholes.1)))
        (λ is. rw is (λ k d l. absurd (omega (arith, l))))

    pub texts_after_fit : (x : Piece) (xs : List Piece) → Whole (x ∷ xs)
        → All Fits (take (texts_after x xs) xs)
    texts_after_fit x xs whole =
        on_test (is_text x) (λ is. rw is (texts_fit xs (first_whole x xs whole).1))
        (λ is. rw is (λ k d l. absurd (omega (arith, l))))

  -- ---- the position of an argument's name

  module _ (bs : List ℕ) (x : Piece) where
    abbrev At : Option Content → Option ℕ
    At held = content_position names (out-Piece x).kind held

    position_held : (held : Option Content) → content_of bs x ≡ held
        → node_position names (node_of bs x) ≡ At held
    position_held held is = rw (node_of_out bs x, is) refl

    -- of a closed argument that asks for a value
    pub position_is :
        (start : ℕ) (name : List ℕ) (spec : Spec) (t : Trait) (q : ℕ) (bytes : List ℕ)
        → content_of bs x ≡ Some (argument_content start name spec (target_value t) q)
        → (out-Piece x).kind ≡ kinds.Closed → encode_utf8_all name ≡ bytes
        → last_position names bytes ≡ node_position names (node_of bs x)
    position_is start name spec t q bytes is kind same =
        sym (position_held (Some (argument_content start name spec (target_value t) q)) is
        ∙ ap (λ k. content_position names k (Some (argument_content start name spec (target_value t) q))) kind
        ∙ ap (last_position names) same)

    -- of a closed one whose name is looked up
    module _ (whole : node_whole (node_of bs x) ≡ true) (kind : (out-Piece x).kind ≡ kinds.Closed)
        (r : Option ℕ)
        (found : (name : List ℕ) → stored_name bs x ≡ Some name
        → r ≡ last_position names (encode_utf8_all name)) where
      by_found :
          (spec : Spec) (t : Trait)
          → ((name : List ℕ) → Some name ≡ stored_name bs x
          → content_of bs x
          ≡ Some (argument_content ((out-Piece x).place + 1) name spec (target_value t) (detail_of x).spec_end))
          → IsSome (stored_name bs x) → r ≡ node_position names (node_of bs x)
      by_found spec t held some =
          with_value (stored_name bs x) some (λ name e. found name e
          ∙ position_is ((out-Piece x).place + 1) name spec t (detail_of x).spec_end
          (encode_utf8_all name) (held name (sym e)) kind refl)

      pub position_of_name : (detail_of x).form ≡ forms.Plain
          → r ≡ node_position names (node_of bs x)
      position_of_name form =
          by_found plain_spec traits.Display
          (λ name is. name_held bs x ((out-Piece x).place + 1) name refl is form)
          (name_fits bs x form (fits_text bs x whole).held)

      pub position_of_value : (t : Trait) → (detail_of x).form ≡ forms.Value t
          → r ≡ node_position names (node_of bs x)
      position_of_value t form =
          by_found (detail_of x).spec t
          (λ name is. value_held bs x ((out-Piece x).place + 1) name refl is t form)
          (value_fits bs x t form (fits_text bs x whole).held)

    -- no other piece has a position
    pub no_position_kind : (kind : PieceKind) → (out-Piece x).kind ≡ kind → kind ≢ kinds.Closed
        → None ≡ node_position names (node_of bs x)
    no_position_kind kind is other = rw (node_of_out bs x, is) (grind (arith, other))

    pub no_position_form : (form : Form) → (detail_of x).form ≡ form → IsOther form
        → (out-Piece x).kind ≡ kinds.Closed → None ≡ node_position names (node_of bs x)
    no_position_form form is other kind =
        sym (rw (node_of_out bs x) (ap (λ k. content_position names k (content_of bs x)) kind
        ∙ rw (is) (grind (arith, other))))

    -- ---- the step of an argument

    -- the value at a position
    pub step_is :
        (k : ℕ) (start : ℕ) (name : List ℕ) (spec : Spec) (t : Trait) (q : ℕ)
        → content_of bs x ≡ Some (argument_content start name spec (target_value t) q)
        → Some k ≡ node_position names (node_of bs x)
        → Some (value_step k t spec q)
        ≡ Some (argument_step names (node_position names (node_of bs x)) (node_of bs x))
    step_is k start name spec t q is position =
        let at : step_at names k (node_of bs x) ≡ value_step k t spec q =
        rw (node_of_out bs x, is) refl in
        ap (λ y. Some y) (sym at) ∙ ap (λ o. Some (argument_step names o (node_of bs x))) position

    module _ (whole : node_whole (node_of bs x) ≡ true) (k : ℕ)
        (position : Some k ≡ node_position names (node_of bs x)) where
      abbrev IsAt : Trait → Spec → Type 0
      IsAt t spec =
          Some (value_step k t spec (detail_of x).spec_end)
          ≡ Some (argument_step names (node_position names (node_of bs x)) (node_of bs x))

      by_name :
          (spec : Spec) (t : Trait)
          → ((name : List ℕ) → Some name ≡ stored_name bs x
          → content_of bs x
          ≡ Some (argument_content ((out-Piece x).place + 1) name spec (target_value t) (detail_of x).spec_end))
          → IsSome (stored_name bs x) → IsAt t spec
      by_name spec t held some =
          with_value (stored_name bs x) some (λ name e.
          step_is k ((out-Piece x).place + 1) name spec t (detail_of x).spec_end
          (held name (sym e)) position)

      pub step_of_name : (detail_of x).form ≡ forms.Plain → IsAt traits.Display plain_spec
      step_of_name form =
          by_name plain_spec traits.Display
          (λ name is. name_held bs x ((out-Piece x).place + 1) name refl is form)
          (name_fits bs x form (fits_text bs x whole).held)

      pub step_of_value : (t : Trait) → (detail_of x).form ≡ forms.Value t
          → IsAt t (detail_of x).spec
      step_of_value t form =
          by_name (detail_of x).spec t
          (λ name is. value_held bs x ((out-Piece x).place + 1) name refl is t form)
          (value_fits bs x t form (fits_text bs x whole).held)

    -- and of a piece of any other form
    pub step_other : (form : Form) → (detail_of x).form ≡ form → IsOther form → (k : ℕ)
        → Some k ≡ node_position names (node_of bs x)
        → Some (whole_step (node_of bs x))
        ≡ Some (argument_step names (node_position names (node_of bs x)) (node_of bs x))
    step_other form is other k position =
        let at : step_at names k (node_of bs x) ≡ whole_step (node_of bs x) =
        rw (node_of_out bs x, is) (grind (arith, other)) in
        ap (λ y. Some y) (sym at) ∙ ap (λ o. Some (argument_step names o (node_of bs x))) position

  -- ---- the steps of the first of some pieces

  module _ (bs : List ℕ) (pieces : List Piece) (x : Piece) (xs rest : List Piece) (n : ℕ)
      (split : pieces ≡ x ∷ xs) (count : n ≡ texts_after x xs) (back : rest ≡ drop n xs)
      (whole : forest_whole (as_forest (nodes_of bs pieces)) ≡ true) where
    abbrev Left : List Piece → List (Option Instruction)
    Left ys = map Some (program names (nodes_of bs ys))

    all_whole : forest_whole (as_forest (nodes_of bs (x ∷ xs))) ≡ true
    all_whole = rw split at whole

    pub rest_whole : forest_whole (as_forest (nodes_of bs rest)) ≡ true
    rest_whole = rw back (pieces_whole bs xs n (first_whole bs x xs all_whole).1)

    -- those after the texts
    rest_is : rest ≡ drop (texts_after x xs) xs
    rest_is = rw (← count) back

    module _ (old new : List (Option Instruction)) (first : Step)
        (is : step_of bs first ≡ Some (first_step bs names x (take (texts_after x xs) xs))) where
      first_left : steps_of bs first ++ Left rest ≡ Left pieces
      first_left =
          rw (alone bs first _ is, rest_is, split)
          (ap (map Some) (sym (program_first bs x xs all_whole)))

      pub one_added : new ≡ old ++ steps_of bs first → new ++ Left rest ≡ old ++ Left pieces
      one_added added =
          added_one old new (steps_of bs first) (Left rest) (Left pieces) added first_left

      -- and that of the argument after text
      module _ (y : Piece) (ys : List Piece) (next : rest ≡ y ∷ ys) (text : is_text x ≡ true)
          (second : Step)
          (at : step_of bs second
          ≡ Some (argument_step names (node_position names (node_of bs y)) (node_of bs y))) where
        not_text : is_text y ≡ false
        not_text =
            let after : texts_after x xs ≡ text_count xs = rw text refl in
            no_text_next xs y ys (ap (λ k. drop k xs) (sym after) ∙ sym rest_is ∙ next)

        second_left : steps_of bs second ++ Left ys ≡ Left rest
        second_left =
            rw (alone bs second _ at, next)
            (ap (map Some) (sym (argument_precedes bs y (other_form bs (detail_of y).form not_text)
            (program names (nodes_of bs ys)))))

        pub two_added : new ≡ old ++ (steps_of bs first ++ steps_of bs second)
            → new ++ Left ys ≡ old ++ Left pieces
        two_added added =
            added_one old new (steps_of bs first ++ steps_of bs second) (Left ys) (Left pieces) added
            (append_assoc (steps_of bs first) (steps_of bs second) (Left ys)
            ∙ ap (λ os. steps_of bs first ++ os) second_left ∙ first_left)

  -- no piece is left
  pub none_left : (bs : List ℕ) (made all : List (Option Instruction)) (xs : List Piece)
      → length xs ≡ 0 → made ++ map Some (program names (nodes_of bs xs)) ≡ all → made ≡ all
  none_left bs made all [] none is = sym (append-nil made) ∙ is
  none_left bs made all (x ∷ xs) none is = absurd (omega (arith, none))
