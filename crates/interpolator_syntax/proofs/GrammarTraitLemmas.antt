-- A trait is its text, and the reverse; why a text begins none; and its reader is local.
use Rattle.std.proofs.Common.{◌≡◌, ◌≢◌, ℕ, ◌+◌, Bool, true, false, eqb, All, List, [], ◌∷◌, arith}
use Rattle.std.proofs.Common.{refl, Result, Ok, Err, Option, Some, eqb-true, get_or, ltb, cond}
use Rattle.std.proofs.Common.{codes, ne_eqb, ltb-true}
use Rattle.std.proofs.lemmas.Bool.{eqb-false, cond_both}
use Rattle.std.proofs.{lemmas.Grind.common_steps, lemmas.List.Elements.All-get_or}
use Rattle.std.specs.Char.{len_utf8}
use Rattle.interpolator_render.specs.{declared.view.Trait.Trait, declared.view.HexDebug.HexDebug}
use Rattle.interpolator_syntax.specs.Classes.{close_brace, question_mark, lower_x, upper_x}
use Rattle.interpolator_syntax.specs.SpecTexts.{Wanted, trait_alone, hexadecimal, trait_letter}
use Rattle.interpolator_syntax.specs.SpecTexts.{letter_trait, trait_from, trait_first, trait_at}
use Rattle.interpolator_syntax.specs.SpecGrammar.{trait_text, MayEnd, AsksDisplay, trait_part}
use Rattle.interpolator_syntax.specs.Faults.{Fault, parse, expected}
use Rattle.interpolator_syntax.specs.{Places.At, Places.strip, Grammar.from_place, Grammar.NotFirst}
use Rattle.interpolator_syntax.specs.GrammarParts.{Lies}
use Rattle.interpolator_syntax.proofs.GrammarPartLemmas.{ok_pair, Says, Agrees, lies_here, lies_end}
use Rattle.interpolator_syntax.proofs.GrammarPartLemmas.{lies_cons, Stripped, stripped, strip_not}
use Rattle.interpolator_syntax.proofs.CaseLemmas.{none_some, some_same}
use Rattle.interpolator_syntax.proofs.LocalLemmas.{Setting, stays, elsewhere, IsLocal, local_stay}
use Rattle.interpolator_syntax.proofs.LocalLemmas.{local_past, local_first, local_strip}
use Rattle.interpolator_syntax.proofs.LocalityLemmas.{Takes}
use Rattle.interpolator_syntax.proofs.SimpleReaderLemmas.{law_of, Law}
use Rattle.interpolator_render.specs.declared.view.Trait.TheVariants as traits
use Rattle.interpolator_render.specs.declared.view.HexDebug.TheVariants as hex_debugs

module _ (start : ℕ) (flagged : Bool) where
  abbrev Shows : At → Result (Wanted × At) Fault → Type 0
  Shows a o = Says (trait_part start flagged) a o

  module _ (p c : ℕ) (cs : List ℕ) where
    abbrev here : At
    here = from_place p (c ∷ cs)

    abbrev past : At
    past = from_place (p + len_utf8 c) cs

    -- `x` and `X`, and `x?` and `X?`
    hex_shows : (t : Trait) (hex : HexDebug) (d : ℕ) → eqb c d ≡ true
        → trait_text t hex_debugs.No ≡ Some (d ∷ [])
        → trait_text traits.Debug hex ≡ Some (d ∷ question_mark ∷ [])
        → (NotFirst question_mark cs → MayEnd t cs) → (o : Option At)
        → Stripped question_mark past o → Shows here (hexadecimal t hex past o)
    hex_shows t hex d e one two ends o h = grind (arith, eqb-true, lies_here, lies_cons)

    abbrev Lettered : Option Trait → Type 0
    Lettered o = Shows here (letter_trait c p past o)

    -- a trait of one letter, or another
    letter_or : (t : Trait) (d : ℕ) → trait_text t hex_debugs.No ≡ Some (d ∷ []) → MayEnd t cs
        → (o : Option Trait) → (eqb c d ≡ false → Lettered o)
        → Lettered (cond (eqb c d) (Some t) o)
    letter_or t d text follows o other = grind (arith, cond_both, eqb-true, lies_here)

    abbrev None_of : List ℕ → Type 0
    None_of ds = All (λ d. c ≢ d) ds

    and_not : (d : ℕ) (ds : List ℕ) → eqb c d ≡ false → None_of ds → None_of (d ∷ ds)
    and_not d ds e h = grind (arith, eqb-false)

    letters_show : eqb c close_brace ≡ false → eqb c lower_x ≡ false → eqb c upper_x ≡ false
        → Lettered (trait_letter c)
    letters_show no_brace no_x no_X =
        grind (arith, common_steps, letter_or, cond_both, eqb-true, and_not)

    char_shows : Shows here (trait_from here c past)
    char_shows = grind (arith, cond_both, eqb-true, hex_shows, stripped, letters_show)

    -- a character that begins no trait
    no_trait_begins :
        None_of (codes "}?oxXbeEip") → trait_from here c past ≡ Err (parse (expected (codes "}") p))
    no_trait_begins h =
        rw (apart 0 refl, apart 3 refl, apart 4 refl, apart 1 refl, apart 2 refl)
        (rw (apart 5 refl, apart 6 refl, apart 7 refl, apart 8 refl, apart 9 refl) refl)
      where
        apart : (i : ℕ) → ltb i 10 ≡ true → eqb c (get_or (codes "}?oxXbeEip") i 0) ≡ false
        apart i k =
            ne_eqb c _ (All-get_or (λ n. c ≢ n) (codes "}?oxXbeEip") i 0 (ltb-true i 10 k) h)

  trait_shows :
      (p : ℕ) (cs : List ℕ) → Shows (from_place p cs) (trait_at start flagged (from_place p cs))
  trait_shows p cs = grind (arith, cond_both, char_shows)

  abbrev reads : ℕ → List ℕ → Result (Wanted × At) Fault
  reads p cs = trait_at start flagged (from_place p cs)

  display_read :
      (a : At) → AsksDisplay flagged a.text
      → trait_at start flagged a ≡ Ok (trait_alone traits.Display, a)
  display_read a h = grind arith

  named_read :
      (a : At) (x : Wanted) (cs : List ℕ) (q : At) → trait_text x.slot x.hex_debug ≡ Some cs
      → Lies a cs q → MayEnd x.slot q.text → trait_at start flagged a ≡ Ok (x, q)
  named_read a x cs q e l h = grind (arith, none_some, some_same, strip_not, ok_pair, lies_end)

  agrees_trait : Agrees (trait_at start flagged) (trait_part start flagged)
  agrees_trait = record {
    says = λ a. trait_shows a.place a.text;
    only = λ a q x t. grind (arith, display_read a, named_read a x);
    only_not = λ a f t. grind (arith, no_trait_begins a.place);
  }

-- ---- its reader is local

module _ (s : Setting) where
  module _ (a rest : At) (t : Takes a rest) where
    local_hexadecimal :
        (slot : Trait) (hex : HexDebug)
        → IsLocal s stays a (hexadecimal slot hex rest (strip question_mark rest))
        (hexadecimal slot hex (elsewhere s rest) (strip question_mark (elsewhere s rest)))
    local_hexadecimal slot hex =
        local_past s stays a rest _ _ _ t (λ settled. refl)
        (local_strip s stays question_mark rest.place rest.text (hexadecimal slot hex rest)
        (hexadecimal slot hex (elsewhere s rest)) (local_stay s stays rest (trait_alone slot))
        (λ end e u. (u, λ settled. refl)))

    local_lettered :
        (c : ℕ) (o : Option Trait)
        → IsLocal s stays a (letter_trait c a.place rest o)
        (letter_trait c (a.place + s.by) (elsewhere s rest) o)
    local_lettered c o = grind (arith, stays)

  pub law_trait :
      (flagged : Bool)
      → Law s stays (trait_at s.start flagged) (trait_at (s.start + s.by) flagged)
      (trait_part s.start flagged)
  law_trait flagged =
      law_of (agrees_trait s.start flagged) (λ a.
      let display = local_stay s stays a (trait_alone traits.Display) in
      local_first s stays a.place a.text (trait_first s.start flagged a)
      (trait_first (s.start + s.by) flagged (elsewhere s a)) (grind (arith, display))
      (λ c rest t. grind (arith, display, local_hexadecimal a rest t, local_lettered a rest t c)))
