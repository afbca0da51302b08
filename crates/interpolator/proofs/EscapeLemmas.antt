-- Doubled braces: how they are appended, and what a text with doubled braces means.
use Rattle.std.proofs.Common.{◌≡◌, ℕ, zero, suc, ◌≤◌, true, List, [], ◌∷◌, ◌++◌, map, length, arith}
use Rattle.std.proofs.Common.{refl, ap, ◌∙◌, sym, Option, Some, append_assoc, append-nil}
use Rattle.std.proofs.{lemmas.Grind.common_steps, lemmas.Str.chars-nil, lemmas.Bool.eqb-true}
use Rattle.std.specs.Str.{chars}
use Rattle.interpolator_render.specs.{declared.view.Trait.Trait, declared.view.Spec.Spec}
use Rattle.interpolator_render.specs.Views.{Shown}
use Rattle.interpolator_syntax.specs.Classes.{front_of, after_of, in_class, is_brace}
use Rattle.interpolator_syntax.specs.Pieces.{PieceKind, Piece, piece_from, past, pieces}
use Rattle.interpolator_syntax.specs.{Places.At, Places.outermost}
use Rattle.interpolator_syntax.specs.{declared.class.Class.TheVariants.Literal}
use Rattle.interpolator_eval.specs.{Meaning.Environments.Environment, Meaning.Meanings.means}
use Rattle.interpolator.specs.Escaping.{braces_doubled, plain_character, ArePlain, SaysAlone}
use Rattle.interpolator_syntax.proofs.PieceLemmas.{piece_within, pieces_none, pieces_next}
use Rattle.interpolator_syntax.proofs.PieceLemmas.{literal_step}
use Rattle.interpolator_syntax.proofs.CaseLemmas.{head_same, tail_same, some_same}
use Rattle.interpolator_eval.proofs.MeaningLemmas.MeaningLemmas.{means_none, means_next}

-- ---- appended

doubled_front : (cs : List ℕ)
    → front_of (in_class Literal) cs ++ braces_doubled (after_of (in_class Literal) cs)
    ≡ braces_doubled cs
doubled_front [] = refl
doubled_front (c ∷ cs) = grind (arith, doubled_front cs)

-- what follows the front begins with a brace
front_stops : (cs rest : List ℕ) (c : ℕ) → after_of (in_class Literal) cs ≡ c ∷ rest
    → is_brace c ≡ true
front_stops [] rest c e = absurd (cc)
front_stops (d ∷ ds) rest c e = grind (arith, front_stops ds rest c)

-- a front was appended
pub front_appended :
    (old new run rest text : List ℕ) → new ≡ old ++ run → run ≡ front_of (in_class Literal) text
    → rest ≡ after_of (in_class Literal) text
    → new ++ braces_doubled rest ≡ old ++ braces_doubled text
front_appended old new run rest text a f b = grind (arith, append_assoc, doubled_front)

-- and after it a brace, twice
pub brace_appended :
    (old mid new run rest after text : List ℕ) (c : ℕ) → mid ≡ old ++ run
    → run ≡ front_of (in_class Literal) text → rest ≡ after_of (in_class Literal) text
    → new ≡ mid ++ (c ∷ c ∷ []) → rest ≡ c ∷ after
    → new ++ braces_doubled after ≡ old ++ braces_doubled text
brace_appended old mid new run rest after text c a f b n e =
    grind (arith, front_stops text after c (sym b ∙ e), append_assoc, front_appended old mid run rest text a f b)

-- nothing was appended yet
pub nothing_appended : (old text : List ℕ) (bytes : List ℕ) → old ≡ chars bytes → bytes ≡ []
    → old ++ text ≡ text
nothing_appended old text bytes o b = grind (arith, chars-nil)

-- and nothing is left
pub all_appended : (out rest text : List ℕ) → length rest ≡ 0
    → out ++ braces_doubled (chars rest) ≡ text → out ≡ text
all_appended out rest text n e = grind (arith, common_steps, append-nil, chars-nil)

-- ---- pieces

abbrev Characters : List Piece → List (Option ℕ)
Characters xs = map (λ x. plain_character x.kind) xs

abbrev IsDoubledPlain : List ℕ → Type 0
IsDoubledPlain cs = (p : ℕ) → ArePlain (pieces (record { place = p; text = braces_doubled cs })) cs

-- a text whose braces are doubled has only plain pieces
doubled_plain : (cs : List ℕ) → IsDoubledPlain cs
doubled_plain [] p = ap Characters (pieces_none p)
doubled_plain (c ∷ cs) p = grind (arith, eqb-true, pieces_next, literal_step, doubled_plain cs)

pub escaped_plain : (text cs : List ℕ) → text ≡ braces_doubled cs
    → ArePlain (pieces (outermost text)) cs
escaped_plain text cs e = rw e (doubled_plain cs 0)

-- ---- meanings

module _ {X : Type 0} (shows : X → Trait → Spec → Shown) (e : Environment X) where
  abbrev Says : (p : ℕ) → (cs text : List ℕ) → Type 0
  Says p cs text = SaysAlone text (means shows e (record { place = p; text = cs }))

  kind_says :
      (p c d : ℕ) (cs text : List ℕ) (k : PieceKind) → (piece_from p c (past p c cs)).piece.kind ≡ k
      → plain_character k ≡ Some d
      → SaysAlone text (means shows e (piece_from p c (past p c cs)).rest)
      → Says p (c ∷ cs) (d ∷ text)
  kind_says p c d cs text k n j r = grind (arith, some_same, means_next)

  plain_says : (most p : ℕ) (cs text : List ℕ) → length cs ≤ most
      → ArePlain (pieces (record { place = p; text = cs })) text → Says p cs text
  plain_says most p [] [] l h =
      rw (means_none shows e p) (record { says = refl; no_fault = refl; no_memory = refl })
  plain_says most p [] (d ∷ text) l h = grind (arith, pieces_none p)
  plain_says zero p (c ∷ cs) text l h = absurd (omega arith)
  plain_says (suc most) p (c ∷ cs) [] l h = grind (arith, pieces_next p c cs)
  plain_says (suc most) p (c ∷ cs) (d ∷ text) l h =
      let rest = (piece_from p c (past p c cs)).rest in
      let shorter = piece_within p c (past p c cs) in
      let k = sym (ap Characters (pieces_next p c cs)) ∙ h in
      kind_says p c d cs text (piece_from p c (past p c cs)).piece.kind refl (head_same k)
      (plain_says most rest.place rest.text text (omega arith) (tail_same k))

  -- if all pieces are plain, the text means their characters and nothing else
  pub plain_means : (a : At) (text : List ℕ) → ArePlain (pieces a) text
      → SaysAlone text (means shows e a)
  plain_means a text h = plain_says (length a.text) a.place a.text text (omega arith) h
