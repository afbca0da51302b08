-- The text of a spec is its parts, one after the other, and the reverse; and what its readers keep.
use Rattle.std.proofs.Common.{◌≡◌, ℕ, ◌+◌, true, eqb, eqb-true, List, [], ◌∷◌, ◌++◌, arith, refl}
use Rattle.std.proofs.Common.{◌∙◌, sym, Result, Ok, Option, None, inl, inr, ◌||◌, ne_eqb}
use Rattle.std.specs.Char.{len_utf8}
use Rattle.interpolator_render.specs.declared.view.Alignment.{Alignment}
use Rattle.interpolator_syntax.specs.Classes.{is_alignment, hash, zero_digit, close_brace}
use Rattle.interpolator_syntax.specs.SpecTexts.{Request, plain_display, alignment_letter}
use Rattle.interpolator_syntax.specs.SpecTexts.{sign_letter, spec_from_sign, spec_from_alignment}
use Rattle.interpolator_syntax.specs.SpecTexts.{fill_or_fault, fill_of, fill_at, spec_parts}
use Rattle.interpolator_syntax.specs.SpecTexts.{spec_of, spec_after}
use Rattle.interpolator_syntax.specs.GrammarParts.{◌>>=◌, letter}
use Rattle.interpolator_syntax.specs.SpecGrammar.{from_sign, Fills, NoneFills, fill, parts}
use Rattle.interpolator_syntax.specs.SpecGrammar.{IsUnread, spec}
use Rattle.interpolator_syntax.specs.{Places.At, Grammar.from_place, Faults.Fault, Moved.moved_kind}
use Rattle.interpolator_syntax.proofs.GrammarOptionLemmas.{law_width, law_precision}
use Rattle.interpolator_syntax.proofs.GrammarPartLemmas.{ok_pair, Says, Agrees, agrees_then}
use Rattle.interpolator_syntax.proofs.GrammarPartLemmas.{lies_here}
use Rattle.interpolator_syntax.proofs.LocalLemmas.{Setting, still, stays, elsewhere, IsSettled}
use Rattle.interpolator_syntax.proofs.LocalLemmas.{nothing_more, IsLocal, local_stay, local_either}
use Rattle.interpolator_syntax.proofs.LocalLemmas.{local_then}
use Rattle.interpolator_syntax.proofs.LocalityLemmas.{stands, takes_none, takes_one}
use Rattle.interpolator_syntax.proofs.SimpleReaderLemmas.{law_of, Law, law_then, law_ends}
use Rattle.interpolator_syntax.proofs.SimpleReaderLemmas.{law_letter, law_flag}
use Rattle.interpolator_syntax.proofs.{GrammarListLemmas.law_kind, GrammarTraitLemmas.law_trait}
use Rattle.interpolator_syntax.proofs.LongestLemmas.{at_same}
use Rattle.interpolator_render.specs.declared.view.Alignment.TheVariants as alignments
use Rattle.interpolator_render.specs.declared.view.Sign.TheVariants as signs

-- a request with its groups moved
abbrev pub moved_request : (by : ℕ) → Request → Request
moved_request by x = record { spec = x.spec; kind = moved_kind by x.kind }

module _ (s : Setting) where
  pub law_from_sign :
      (filled : Option ℕ) (alignment : Alignment)
      → Law s (moved_request s.by) (spec_from_sign s.start filled alignment)
      (spec_from_sign (s.start + s.by) filled alignment) (from_sign s.start filled alignment)
  unfolding spec_from_sign
  law_from_sign filled alignment =
      law_then _ (law_letter s sign_letter signs.Unset) (λ sign.
      law_then _ (law_flag s hash) (λ alternate.
      law_then _ (law_flag s zero_digit) (λ zero.
      law_then _ (law_width s) (λ width.
      law_then _ (law_precision s) (λ precision.
      law_then _ (law_trait s (alternate || zero)) (λ shown.
      law_then _ (law_kind s shown.slot) (λ kind. law_ends s (moved_request s.by) _)))))))

  law_from_alignment :
      (filled : Option ℕ)
      → Law s (moved_request s.by) (spec_from_alignment s.start filled)
      (spec_from_alignment (s.start + s.by) filled)
      (letter alignment_letter alignments.Unset >>= from_sign s.start filled)
  law_from_alignment filled =
      law_then _ (law_letter s alignment_letter alignments.Unset) (law_from_sign filled)

-- ---- the fill

fills_here :
    (p c d : ℕ) (ds : List ℕ) → is_alignment d ≡ true
    → Fills c (from_place p (c ∷ d ∷ ds)) (from_place (p + len_utf8 c) (d ∷ ds))
fills_here p c d ds t = grind (arith, lies_here)

fill_says : (p : ℕ) (cs : List ℕ) → Says fill (from_place p cs) (fill_of (from_place p cs) cs)
fill_says p [] = inr (λ c d more e. cc, refl, refl)
fill_says p (c ∷ []) = inr (λ d e more k. cc, refl, refl)
fill_says p (c ∷ d ∷ ds) = grind (arith, eqb-true, fills_here p c d ds)

-- in front of an alignment
fill_read : (a q : At) (c : ℕ) → Fills c a q → fill_at a ≡ fill_or_fault a c q
fill_read a q c h = grind (arith, h.0.split, h.1.1.1, h.0.place, at_same)

none_read : (p : ℕ) (cs : List ℕ) → NoneFills cs
    → fill_of (from_place p cs) cs ≡ Ok (None, from_place p cs)
none_read p cs h = grind (arith, h)

agrees_fill : Agrees fill_at fill
agrees_fill = grind (arith, fill_says, fill_read, none_read, ok_pair, ne_eqb)

-- ---- the whole spec

module _ (start : ℕ) where
  agrees_parts : Agrees (spec_parts start) (parts start)
  agrees_parts =
      agrees_then agrees_fill (λ filled.
      let law = law_from_alignment (still start) filled in law.agrees)

  abbrev Specs : At → Result (Request × At) Fault → Type 0
  Specs a o = Says (spec start) a o

  spec_says : (p : ℕ) (cs : List ℕ) → Specs (from_place p cs) (spec_of start (from_place p cs) cs)
  spec_says p cs = grind (arith, eqb-true, agrees_parts.says (from_place p cs))

  unread : (a : At) (cs : List ℕ) → IsUnread cs → spec_of start a cs ≡ Ok (plain_display, a)
  unread a cs h = grind arith

  parts_read : (a : At) (cs : List ℕ) → ¬ IsUnread cs → spec_of start a cs ≡ spec_parts start a
  parts_read a cs h = grind (arith, eqb-true, h)

  agrees_spec : Agrees (spec_after start) (spec start)
  unfolding spec_after
  agrees_spec = record {
    says = λ a. spec_says a.place a.text;
    only = λ a q x t. elim t [
      | inl s ↦ unread a a.text s.0 ∙ ok_pair (sym s.1) (sym s.2)
      | inr s ↦ parts_read a a.text s.0 ∙ agrees_parts.only a q x s.1
    ];
    only_not = λ a f t. parts_read a a.text t.0 ∙ agrees_parts.only_not a f t.1;
  }

-- ---- what its readers keep

module _ (s : Setting) where
  -- a second character decides whether the first is a fill
  local_fill :
      (p c d : ℕ) (ds : List ℕ)
      → IsLocal s stays (stands p (c ∷ d ∷ ds)) (fill_at (stands p (c ∷ d ∷ ds)))
      (fill_at (elsewhere s (stands p (c ∷ d ∷ ds))))
  local_fill p c d ds = grind (arith, takes_one p c (d ∷ ds), local_stay, at_same, ok_pair)

  -- a closing brace that is not passed is the first character, or the second one
  one_left :
      (c : ℕ) (b : At) → IsSettled s (c ∷ [])
      → spec_of (s.start + s.by) b (c ∷ s.more) ≡ Ok (plain_display, b)
  one_left c b t = grind (arith, t)

  local_spec :
      (p : ℕ) (cs : List ℕ)
      → IsLocal s (moved_request s.by) (stands p cs) (spec_of s.start (stands p cs) cs)
      (spec_of (s.start + s.by) (elsewhere s (stands p cs)) (cs ++ s.more))
  local_spec p [] = grind (arith, takes_none, nothing_more s)
  local_spec p (c ∷ []) = grind (arith, takes_none, one_left c)
  local_spec p (c ∷ d ∷ ds) =
      let a = stands p (c ∷ d ∷ ds) in
      let move = moved_request s.by in
      local_either s move a (eqb c close_brace) _ _ _ _ (local_stay s move a plain_display)
      (local_then s stays move a _ _ _ (spec_from_alignment (s.start + s.by)) (local_fill p c d ds)
      (λ filled b t.
      let law = law_from_alignment s filled in law.reads.is_local b))

  pub law_spec :
      Law s (moved_request s.by) (spec_after s.start) (spec_after (s.start + s.by)) (spec s.start)
  unfolding spec_after
  law_spec = law_of (agrees_spec s.start) (λ a. local_spec a.place a.text)
