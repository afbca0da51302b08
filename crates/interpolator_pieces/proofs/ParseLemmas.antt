-- What is stored of a text that is read: of one piece, of an argument, and of all that was read.
use Rattle.std.proofs.Common.{◌≡◌, ℕ, ◌+◌, ◌-◌, ◌≤◌, List, [], ◌∷◌, ◌++◌, length, arith, refl}
use Rattle.std.proofs.Common.{◌∙◌, sym, Option, Some, None, Ok, Err, append_assoc, append-nil}
use Rattle.std.proofs.Common.{option_map, chars, IsUtf8}
use Rattle.std.specs.Global.{Vec}
use Rattle.interpolator_render.specs.declared.view.Trait.{Trait}
use Rattle.interpolator_render.specs.declared.view.Trait.TheVariants as traits
use Rattle.interpolator_syntax.specs.Places.{At, at, size, strip, all_after, outermost}
use Rattle.interpolator_syntax.specs.Arguments.{Argument, argument_at, named_argument, request_of}
use Rattle.interpolator_syntax.specs.Arguments.{kind_of_request, taken_read, argument_after}
use Rattle.interpolator_syntax.specs.Arguments.{plain_argument, list_of}
use Rattle.interpolator_syntax.specs.Pieces.{argument_from, argument_step, takes_all, broken}
use Rattle.interpolator_syntax.specs.SpecTexts.{of_value, of_list, plain_spec}
use Rattle.interpolator_syntax.specs.Tokens.{Token, literals, doubled, lone_close}
use Rattle.interpolator_syntax.specs.Tokens.{argument as argument_token, first_token, past_token}
use Rattle.interpolator_syntax.specs.{Classes.close_brace, Faults.Fault, Groups.Group}
use Rattle.interpolator_syntax.specs.{Groups.group_of, declared.argument.ArgumentName.ArgumentName}
use Rattle.interpolator_syntax.specs.declared.argument.Request as code_request
use Rattle.interpolator_syntax.specs.declared.argument.TakenArgument.{TakenArgument}
use Rattle.interpolator_syntax.specs.declared.cursor.Cursor.{Cursor}
use Rattle.interpolator_syntax.specs.Nodes.{Node, node, Branch, no_branch, Content}
use Rattle.interpolator_syntax.specs.Nodes.{argument_content, target_of, nodes, piece_node}
use Rattle.interpolator_syntax.specs.Nodes.{token_node, group_branch, item_branch, join_branch}
use Rattle.interpolator_syntax.proofs.CharacterLemmas.{size-chars, chars_of_end}
use Rattle.interpolator_syntax.proofs.LocalityLemmas.{Takes, stands, takes_then, takes_shorter}
use Rattle.interpolator_syntax.proofs.LocalityLemmas.{takes_reaches}
use Rattle.interpolator_syntax.proofs.PieceLemmas.{read_alone, strip_after}
use Rattle.interpolator_syntax.proofs.SizeLemmas.{GroupIfIn, ListIn, argument_in}
use Rattle.interpolator_syntax.proofs.{CaseLemmas.err_ok, LongestLemmas.at_same}
use Rattle.interpolator_syntax.proofs.ReaderLemmas.{argument_takes}
use Rattle.interpolator_pieces.specs.Reading.{taken_step, ending_kind, ending_rest}
use Rattle.interpolator_pieces.specs.Stored.{Within, StandFor, Pushed, GroupStands, part, name_part}
use Rattle.interpolator_pieces.specs.Stored.{node_of, nodes_of, branch_of, stored_content}
use Rattle.interpolator_pieces.specs.Stored.{bare_detail, detail_content}
use Rattle.interpolator_pieces.specs.declared.piece.Form.TheVariants as forms
use Rattle.interpolator_pieces.specs.declared.piece.Piece.{Piece}
use Rattle.interpolator_syntax.specs.declared.piece_kind.PieceKind as reported
use Rattle.interpolator_syntax.specs.declared.piece_kind.PieceKind.TheVariants.{Literal, Doubled}
use Rattle.interpolator_syntax.specs.declared.piece_kind.PieceKind.TheVariants.{LoneClose, Closed}
use Rattle.interpolator_syntax.proofs.NodeLemmas.{nodes_first, nodes_none}
use Rattle.interpolator_pieces.proofs.PartLemmas.{part_lies, name_lies}
use Rattle.std.proofs.lemmas.List.{map-append}
use Rattle.interpolator_pieces.proofs.WithinLemmas.{within_then, after_front, front_within}
use Rattle.interpolator_pieces.proofs.WithinLemmas.{group_stands, name_within, within_same}
use Rattle.interpolator_syntax.proofs.TokenTextLemmas.{written_text, takes_token, scan_taken}

-- ---- what follows all of a text

-- after as many bytes as the text has, none is left
pub all_skipped : (p : ℕ) (bs rest : List ℕ) → IsUtf8 bs → length rest ≡ 0
    → stands (p + length bs) (chars rest) ≡ all_after (stands p (chars bs))
all_skipped p bs rest u e = grind (arith, chars_of_end, size-chars)

-- what follows an argument, by how it ends
pub ending_is : (p : ℕ) (a : At) (x : Argument) (q : At) (o : Option At) → argument_at a ≡ Ok (x, q)
    → ending_rest q o ≡ (argument_step p a x q o).rest
ending_is p a x q o e = grind (arith, at_same, takes_reaches, argument_takes)

-- ---- texts

-- the node of a piece without a detail
abbrev BareNode : List ℕ → (place end : ℕ) → reported.PieceKind → Node
BareNode bs place end kind =
    node place end kind (detail_content bs place (bare_detail place end kind)) no_branch no_branch

-- the kind of a text that the scan hands on
abbrev TextKind : Token → reported.PieceKind → Type 0
TextKind (literals cs) kind = kind ≡ Literal
TextKind (doubled c) kind = kind ≡ Doubled
TextKind lone_close kind = kind ≡ LoneClose
TextKind argument_token kind = ⊥

module _ (bs : List ℕ) (u : IsUtf8 bs) (a : At) (w : Within (outermost (chars bs)) a) where
  written_part :
      (x : Token) (b : At) (to : ℕ) → first_token a ≡ Some (x, b)
      → to ≡ a.place + size (written_text x) → part bs a.place to ≡ Some (written_text x)
  written_part x b to e t =
      let h = takes_token a (x, b) e in
      part_lies bs a.place (written_text x) to u
      (within_then _ a _ w (front_within a (written_text x) h.more h.begins)) t

  text_node : (x : Token) (kind : reported.PieceKind) (b : At) → TextKind x kind
      → first_token a ≡ Some (x, b)
      → BareNode bs a.place b.place kind ≡ token_node nodes a.place x b
  text_node (doubled c) kind b k e =
      let size = (takes_token a (doubled c, b) e).size in
      grind (arith, written_part (doubled c) b (b.place - 1) e, size)
  text_node argument_token kind b k e = absurd k
  text_node x kind b k e = grind (arith, written_part x b b.place e, (takes_token a (x, b) e).size)

-- ---- arguments

-- the name of an argument is in its text, after what comes before it
record NameStands (a : At) (x : Argument) : Type 0 where
  pub within : Within a (stands x.name_place x.name)
  pub after : a.place ≤ x.name_place

name_stands : (a : At) (x : Argument) (q : At) → argument_at a ≡ Ok (x, q) → NameStands a x
unfolding argument_at
name_stands a x q e = grind (arith, name_within, err_ok)

-- an argument that was read after a brace at `place`, up to `end`
module _ (place : ℕ) (b : At) (n : ArgumentName) (x : code_request.Request) (end : Cursor)
    (start : b.place ≡ place + 1)
    (read : argument_at b ≡ Ok (named_argument n (request_of x), at end))
    (name_end : n.end.place ≡ n.place + size (chars n.name.now)) where
  abbrev taken : Argument
  taken = named_argument n (request_of x)

  module _ (bs : List ℕ) (u : IsUtf8 bs) (w : Within (outermost (chars bs)) b) where
    taken_name : name_part bs place n.place n.end.place ≡ Some taken.name
    taken_name =
        let name = name_stands b taken (at end) read in
        name_lies bs place n.place taken.name n.end.place u (within_then _ b _ w name.within)
        name_end (omega arith)

    list_held : kind_of_request x ≡ of_list (list_of x.list)
        → stored_content bs place n.place n.end.place end.place x.spec (forms.List x.list.range)
        ≡ Some (argument_content b.place taken.name taken.spec (target_of taken.kind) end.place)
    list_held k = grind (arith, taken_name)

    group_is : (o : Option Group) (xs : Option (Vec Piece)) → GroupIfIn o b → GroupStands xs o
        → branch_of bs xs ≡ group_branch nodes o
    group_is None xs h g = rw g refl
    group_is (Some g) xs h k = k bs u (within_then _ b _ w (group_stands b g h))

  -- the argument from its brace on
  step_is : argument_from b.place b
      ≡ argument_step b.place b taken (at end) (strip close_brace (at end))
  unfolding argument_from
  step_is = grind arith

  pub rest_is : (rest : At) → rest ≡ ending_rest (at end) (strip close_brace (at end))
      → rest ≡ (argument_from b.place b).rest
  rest_is rest e = grind (arith, step_is, ending_is)

  module _ (old new : List Piece) (piece : Piece) (rest : At) (kind : reported.PieceKind)
      (ends : rest ≡ ending_rest (at end) (strip close_brace (at end)))
      (is : kind ≡ ending_kind (strip close_brace (at end)))
      (added : new ≡ old ++ (piece ∷ [])) where
    by_parts : (held : Option Content) (item join : Branch)
        → held ≡ Some (argument_content b.place taken.name taken.spec (target_of taken.kind) end.place)
        → item ≡ item_branch nodes taken.kind → join ≡ join_branch nodes taken.kind
        → node place rest.place kind held item join
        ≡ (let s = argument_step b.place b taken (at end) (strip close_brace (at end)) in
        piece_node nodes place s.rest.place s.piece.kind)
    by_parts held item join h i j = grind (arith, ending_is)

    pub value_pushed :
        (slot : Trait) → kind_of_request x ≡ of_value slot
        → ((bs : List ℕ) → node_of bs piece
        ≡ node place rest.place kind (stored_content bs place n.place n.end.place end.place x.spec
        (forms.Value slot)) no_branch no_branch)
        → Pushed old new (token_node nodes place argument_token b) b
    value_pushed slot k stored = grind (arith, step_is, stands, by_parts, taken_name)

    pub list_pushed :
        (item join : Option (Vec Piece)) → kind_of_request x ≡ of_list (list_of x.list)
        → GroupStands item (option_map group_of x.list.item)
        → GroupStands join (option_map group_of x.list.join)
        → ((bs : List ℕ) → node_of bs piece
        ≡ node place rest.place kind (stored_content bs place n.place n.end.place end.place x.spec
        (forms.List x.list.range)) (branch_of bs item) (branch_of bs join))
        → Pushed old new (token_node nodes place argument_token b) b
    list_pushed item join k i j stored =
        rw step_is (record {
          piece = piece;
          added = added;
          stands = λ bs u w.
              let groups : ListIn (list_of x.list) b = grind (arith, argument_in) in
              stored bs
              ∙ by_parts _ _ _ (list_held bs u w k)
              (rw k (group_is bs u w _ item groups.item i))
              (rw k (group_is bs u w _ join groups.join j));
        })

-- a name alone asks for plain display
abbrev pub plainly : code_request.Request
plainly = record {
  slot = traits.Display;
  spec = plain_spec;
  list = record { range = None; item = None; join = None };
}

-- the closing brace has one byte
pub name_closes : (n : ArgumentName) (rest : At) → Some rest ≡ strip close_brace (at n.end)
    → rest.place ≡ n.end.place + 1
name_closes n rest closed =
    omega (arith, (strip_after close_brace _ (at n.end).text rest (sym closed)).1)

-- a name that a closing brace follows, after a brace at `place`
module _ (place : ℕ) (b : At) (n : ArgumentName) (rest : At)
    (named : argument_at b ≡ argument_after b.place (plain_argument n) (at n.end))
    (closed : Some rest ≡ strip close_brace (at n.end)) (start : b.place ≡ place + 1)
    (name_end : n.end.place ≡ n.place + size (chars n.name.now)) where
  pub name_rest : rest ≡ (argument_from b.place b).rest
  name_rest =
      rest_is place b n plainly n.end start (read_alone b n rest named (sym closed)) name_end rest
      (grind arith)

  pub name_pushed :
      (old new : List Piece) (piece : Piece) → new ≡ old ++ (piece ∷ [])
      → ((bs : List ℕ) → node_of bs piece
      ≡ node place rest.place Closed (stored_content bs place n.place n.end.place n.end.place
      plain_spec forms.Plain) no_branch no_branch)
      → Pushed old new (token_node nodes place argument_token b) b
  name_pushed old new piece added stored =
      value_pushed place b n plainly n.end start (read_alone b n rest named (sym closed)) name_end
      old new piece rest Closed (grind arith) (grind arith) added traits.Display refl stored

-- the argument from its brace on, if it was read
pub taken_is : (b : At) (t : TakenArgument) → taken_read (Ok t) ≡ argument_at b
    → option_map at t.rest ≡ strip close_brace (at t.end) → argument_from b.place b ≡ taken_step b t
unfolding argument_from
taken_is b t e r = grind arith

-- and if it is broken
pub broken_is : (b : At) (f : Fault) → Err f ≡ argument_at b
    → argument_from b.place b ≡ takes_all b.place b (broken f)
unfolding argument_from
broken_is b f e = grind arith

-- ---- all that was read

-- `here` is after a front of the text, and the pieces that were stored and those from here on are
-- the pieces of the whole text
pub record Reading (text : At) (stored : List Piece) (here : At) : Type 0 where
  pub taken : Takes text here
  pub so_far :
      (bs : List ℕ) → IsUtf8 bs → Within (outermost (chars bs)) text
      → nodes_of bs stored ++ nodes here ≡ nodes text

module _ (text a : At) (stored : List Piece) (reading : Reading text stored a) where
  -- what is left is no longer than the text
  pub left_within : length a.text ≤ length text.text
  left_within = grind (arith, takes_shorter)

  -- a token of the scan, whose text begins at c, is stored
  pub reads_on :
      (b : At) (x : Token) (c rest : At) (new : List Piece) → first_token a ≡ Some (x, b)
      → Within a c → Pushed stored new (token_node nodes a.place x b) c → rest ≡ past_token x b
      → Reading text new rest
  reads_on b x c rest new e k p r = record {
    taken = takes_then text a rest reading.taken (rw r (scan_taken a (x, b) e));
    so_far = λ bs u w.
        let here = within_then _ text a w (after_front text a reading.taken) in
        let own = p.stands bs u (within_then _ a c here k) in
        let before = reading.so_far bs u w in
        let next = nodes_first a b x e in
        grind (arith, map-append, append_assoc (nodes_of bs stored), next, own, before);
  }

  -- a text that the scan hands on is stored as a piece that is written as it is
  pub text_reads :
      (x : Token) (b : At) (new : List Piece) (piece : Piece) (kind : reported.PieceKind)
      → first_token a ≡ Some (x, b) → TextKind x kind → new ≡ stored ++ (piece ∷ [])
      → ((bs : List ℕ) → node_of bs piece ≡ BareNode bs a.place b.place kind)
      → Reading text new b
  text_reads x b new piece kind e k added is =
      reads_on b x a b new e (within_same a) (record {
        piece = piece;
        added = added;
        stands = λ bs u w. is bs ∙ text_node bs u a w x kind b k e;
      }) (grind arith)

  -- nothing is left
  pub all_read : first_token a ≡ None → StandFor stored text
  all_read e = grind (arith, append-nil, nodes_none)
