-- The pieces of a text, and the groups of its arguments, lie in it; the groups are shorter.
use Rattle.std.proofs.Common.{◌≡◌, ℕ, ◌+◌, ◌<◌, ◌≤◌, List, [], ◌∷◌, ◌++◌, length, arith, refl, ap}
use Rattle.std.proofs.Common.{append-nil, length-append, append_assoc, Ok, Option, Some, None}
use Rattle.std.specs.Prelude.{⊤}
use Rattle.interpolator_syntax.specs.SpecTexts.{Kind, of_value, of_list}
use Rattle.interpolator_syntax.specs.Pieces.{Piece, PieceKind, closed, unclosed, pieces, broken}
use Rattle.interpolator_syntax.specs.Grammar.{Fits, Stands, IsPieces}
use Rattle.interpolator_syntax.specs.{Places.At, Places.size, Classes.close_brace}
use Rattle.interpolator_syntax.specs.{Classes.open_brace}
use Rattle.interpolator_syntax.specs.{Groups.Group, GroupGrammar.open_text, GroupGrammar.close_text}
use Rattle.interpolator_syntax.specs.{Lists.ListRequest, Arguments.Argument, Arguments.argument_at}
use Rattle.interpolator_syntax.specs.Faults.{fault_place}
use Rattle.interpolator_syntax.proofs.GrammarPieceLemmas.{pieces_are}
use Rattle.interpolator_syntax.proofs.GuardLemmas.{GroupAfter, KindAfter, no_longer, kind_grows}
use Rattle.interpolator_syntax.proofs.GuardLemmas.{argument_after}
use Rattle.interpolator_syntax.proofs.ReaderLemmas.{argument_refuses, argument_takes}
use Rattle.interpolator_syntax.proofs.LocalityLemmas.{size-append, Takes, stands, takes_none}
use Rattle.interpolator_syntax.proofs.LocalityLemmas.{takes_then, takes_shorter, takes_reaches}

-- ---- groups in a text

-- a group is in the text at a, at its place, and is shorter
pub record GroupIn (g : Group) (a : At) : Type 0 where
  pub front : List ℕ
  pub back : List ℕ
  pub split : a.text ≡ front ++ (g.text ++ back)
  pub place : g.place ≡ a.place + size front
  pub shorter : length g.text < length a.text
  pub lies : g.place + size g.text ≤ a.place + size a.text

-- so is a group that may be absent, if there is one
abbrev pub GroupIfIn : Option Group → At → Type 0
GroupIfIn None a = ⊤
GroupIfIn (Some g) a = GroupIn g a

-- the item format and the join of a list
pub record ListIn (l : ListRequest) (a : At) : Type 0 where
  pub item : GroupIfIn l.item a
  pub join : GroupIfIn l.join a

-- the groups of an argument's kind
abbrev pub KindIn : Kind → At → Type 0
KindIn (of_value t) a = ⊤
KindIn (of_list l) a = ListIn l a

-- a group that begins after a front lies in the text
group_in : (n : ℕ) (o : Option Group) (a : At) → GroupAfter n o a → GroupIfIn o a
group_in n None a h = tt
group_in n (Some g) a h =
    let is = h.is in
    let t = h.takes in record {
      front = t.front ++ open_text is.k;
      back = close_text is.k ++ h.closed.text;
      split = rw (append_assoc, ← is.split) t.split;
      place = omega (arith, is.place, t.place, size-append t.front (open_text is.k));
      shorter = omega (arith, ap length is.split, length-append {A = ℕ}, takes_shorter a h.opens t);
      lies =
          omega (arith, is.place, ap size is.split, size-append, takes_reaches _ a h.opens t refl);
    }

kind_in : (n : ℕ) (k : Kind) (a : At) → KindAfter n k a → KindIn k a
kind_in n k a h = grind (arith, group_in)

-- the groups of an argument lie in its text
pub argument_in : (a : At) (x : Argument) (q : At) → argument_at a ≡ Ok (x, q) → KindIn x.kind a
argument_in a x q e = grind (arith, kind_in, argument_after)

-- ---- pieces

-- an argument between these places lies in the text, as its groups do
pub record ArgumentIn (start : ℕ) (x : Argument) (end : ℕ) (a : At) : Type 0 where
  pub starts : start ≤ a.place + size a.text
  pub ends : end ≤ a.place + size a.text
  pub kind : KindIn x.kind a

-- so does the kind of a piece
abbrev pub PieceIn : PieceKind → At → Type 0
PieceIn (closed start x end) a = ArgumentIn start x end a
PieceIn (unclosed start x end) a = ArgumentIn start x end a
PieceIn (broken f) a = fault_place f ≤ a.place + size a.text
PieceIn _ a = ⊤

-- so does each piece
abbrev pub PiecesIn : List Piece → At → Type 0
PiecesIn [] a = ⊤
PiecesIn (x ∷ xs) a = PieceIn x.kind a × (x.place ≤ a.place + size a.text) × PiecesIn xs a

argument_lies : (a b : At) (x : Argument) (q : At) → Takes a b → argument_at b ≡ Ok (x, q)
    → ArgumentIn b.place x q.place a
argument_lies a b x q t e =
    let kind = kind_grows 2 2 a b t (no_longer 2 a b t) x.kind (argument_after b x q e) in
    let there = takes_reaches _ a b t refl in
    let ends = takes_reaches _ b q (argument_takes b x q e) refl in
    grind (arith, there, ends, kind_in 2 x.kind a kind)

module _ (a b : At) (t : Takes a b) where
  -- the text after a brace
  after_brace : (start : ℕ) (inner : List ℕ) → b.text ≡ open_brace ∷ inner → start ≡ b.place + 1
      → Takes a (stands start inner)
  after_brace start inner e k =
      takes_then a b (stands start inner) t
      (record { front = open_brace ∷ []; split = e; place = omega (arith, k) })

  piece_in : (x : Piece) (rest : List ℕ) → Stands b x rest → PieceIn x.kind a
  piece_in x rest s = by_kind x.kind s.fits
    where
      to_end : (inner : List ℕ) → x.text ≡ open_brace ∷ inner → rest ≡ []
          → b.text ≡ open_brace ∷ inner
      to_end inner e k = grind (arith, append-nil, s.split)

      by_kind : (k : PieceKind) → Fits b.place k x.text rest → PieceIn k a
      by_kind (closed start y end) f =
          let inner = f.inner ++ (close_brace ∷ rest) in
          let split : b.text ≡ open_brace ∷ inner = grind (arith, append_assoc, s.split) in
          argument_lies a (stands start inner) y _ (after_brace start inner split f.begins) f.reads
      by_kind (unclosed start y end) f =
          let there = after_brace start f.inner (to_end f.inner f.in_front f.takes_all) f.begins in
          argument_lies a (stands start f.inner) y _ there f.reads
      by_kind (broken g) f =
          let split = to_end f.inner f.in_front f.takes_all in
          let there = after_brace (b.place + 1) f.inner split refl in
          grind (arith, takes_reaches _ a _ there refl, argument_refuses _ g f.reads)
      by_kind k f = tt

these_in : (xs : List Piece) (a b : At) → Takes a b → IsPieces b xs → PiecesIn xs a
these_in [] a b t h = tt
these_in (x ∷ xs) a b t h =
    let s = h.1.stands in
    let rest = stands (b.place + size x.text) h.0 in
    let after = takes_then a b rest t (record { front = x.text; split = s.split; place = refl }) in
    let there = takes_reaches _ a b t refl in
    (piece_in a b t x h.0 s, omega (arith, s.place, there), these_in xs a rest after h.2)

-- the pieces of a text lie in it, and their groups are shorter
pub pieces_in : (a : At) → PiecesIn (pieces a) a
pieces_in a = these_in (pieces a) a a (takes_none a) (pieces_are a)
