-- The text of a spec by its parts, one after the other, each there if its beginning is.
use Rattle.std.specs.Prelude.{◌≡◌, ◌≢◌, ◌⊎◌, ℕ, ◌≤◌, ◌||◌, Bool, IsTrue, IsFalse, All}
use Rattle.std.specs.Prelude.{List, [], ◌∷◌, length, Option, Some, None, codes, ⊤}
use Rattle.std.specs.Char.{is_ascii_digit}
use Rattle.interpolator_render.specs.declared.view.Trait.{Trait}
use Rattle.interpolator_render.specs.declared.view.Trait.TheVariants as traits
use Rattle.interpolator_render.specs.declared.view.Alignment.{Alignment}
use Rattle.interpolator_render.specs.declared.view.Alignment.TheVariants as alignments
use Rattle.interpolator_render.specs.declared.view.Sign.TheVariants as signs
use Rattle.interpolator_render.specs.declared.view.HexDebug.{HexDebug}
use Rattle.interpolator_render.specs.declared.view.HexDebug.TheVariants as hex_debugs
use Rattle.interpolator_syntax.specs.Classes.{is_alignment, hash, zero_digit, point, open_brace}
use Rattle.interpolator_syntax.specs.Classes.{close_brace, question_mark, lower_p}
use Rattle.interpolator_syntax.specs.SpecTexts.{Kind, of_value, of_list, Request, plain_display}
use Rattle.interpolator_syntax.specs.SpecTexts.{request_with}
use Rattle.interpolator_syntax.specs.SpecTexts.{Wanted, trait_alone, alignment_letter, sign_letter}
use Rattle.interpolator_syntax.specs.GrammarParts.{Part, ◌>>=◌, ends, IsFirst, Lies, letter, flag}
use Rattle.interpolator_syntax.specs.GrammarParts.{FirstPasses, where_first, where_after, number}
use Rattle.interpolator_syntax.specs.Faults.{Fault, parse, unclosed, expected, fill as no_fill}
use Rattle.interpolator_syntax.specs.Faults.{invalid_width, invalid_precision, unsupported_option}
use Rattle.interpolator_syntax.specs.{Places.At, NumberGrammar.naturals, Grammar.NotFirst}
use Rattle.interpolator_syntax.specs.ListGrammar.{list}

-- a number, if there is a digit
abbrev pub width : (start : ℕ) → Part (Option ℕ)
width start = where_first is_ascii_digit (number naturals invalid_width start)

-- a number after a `.`, if there is one
abbrev pub precision : (start : ℕ) → Part (Option ℕ)
precision start = where_after point (number naturals invalid_precision start)

-- the text that stands for a trait, and for how debug writes numbers; display has none
abbrev pub trait_text : Trait → HexDebug → Option (List ℕ)
trait_text traits.Debug hex_debugs.No = Some (codes "?")
trait_text traits.Debug hex_debugs.Lower = Some (codes "x?")
trait_text traits.Debug hex_debugs.Upper = Some (codes "X?")
trait_text traits.Octal hex_debugs.No = Some (codes "o")
trait_text traits.LowerHex hex_debugs.No = Some (codes "x")
trait_text traits.UpperHex hex_debugs.No = Some (codes "X")
trait_text traits.Binary hex_debugs.No = Some (codes "b")
trait_text traits.LowerExp hex_debugs.No = Some (codes "e")
trait_text traits.UpperExp hex_debugs.No = Some (codes "E")
trait_text traits.Iter hex_debugs.No = Some (codes "i")
trait_text _ _ = None

-- the trait's text may end here: `x` and `X` only if no `?` follows
abbrev pub MayEnd : Trait → (rest : List ℕ) → Type 0
MayEnd traits.LowerHex rest = NotFirst question_mark rest
MayEnd traits.UpperHex rest = NotFirst question_mark rest
MayEnd _ rest = ⊤

-- display is meant in front of a `}`, and at the end of the text if no `#` or `0` was read
abbrev pub AsksDisplay : (flagged : Bool) → (text : List ℕ) → Type 0
AsksDisplay flagged text = IsFirst close_brace text ⊎ ((text ≡ []) × IsFalse flagged)

-- a trait's text, or nothing for display; or why there is none: the text ends, or there is a `p`,
-- or another character that begins no trait
abbrev pub trait_part : (start : ℕ) → (flagged : Bool) → Part Wanted
trait_part start flagged = record {
  is =
      λ a x q. (AsksDisplay flagged a.text × (x ≡ trait_alone traits.Display) × (q ≡ a))
      ⊎ ((cs : List ℕ) × (trait_text x.slot x.hex_debug ≡ Some cs) × Lies a cs q
      × MayEnd x.slot q.text);
  is_not =
      λ a f. ((a.text ≡ []) × IsTrue flagged × (f ≡ parse (unclosed start)))
      ⊎ ((IsFirst lower_p a.text
      × (f ≡ unsupported_option (codes "p") (codes "pointer") a.place))
      ⊎ ((c : ℕ) × IsFirst c a.text × All (λ d. c ≢ d) (codes "}?oxXbeEip")
      × (f ≡ parse (expected (codes "}") a.place))));
}

-- the kind under a trait: after the letter of a list comes the form of that list
abbrev pub kind : (start : ℕ) → Trait → Part Kind
kind start traits.Iter =
    do
      l ← list start
      ends (of_list l)
kind start t = ends (of_value t)

-- the parts of a spec from the sign on
abbrev pub from_sign : (start : ℕ) → (fill : Option ℕ) → Alignment → Part Request
from_sign start fill alignment =
    do
      sign ← letter sign_letter signs.Unset
      alternate ← flag hash
      zero ← flag zero_digit
      width ← width start
      precision ← precision start
      trait_part ← trait_part start (alternate || zero)
      kind ← kind start trait_part.slot
      ends (request_with fill alignment sign alternate zero width precision trait_part kind)

-- the character c is at a, and an alignment follows it at q
abbrev pub Fills : (c : ℕ) → (a q : At) → Type 0
Fills c a q = Lies a (c ∷ []) q × FirstPasses is_alignment q.text

-- no alignment comes second
abbrev pub NoneFills : (text : List ℕ) → Type 0
NoneFills text = (c d : ℕ) (more : List ℕ) → text ≡ c ∷ d ∷ more → IsFalse (is_alignment d)

-- a fill: if an alignment comes second, the first character, which is no `{`
abbrev pub fill : Part (Option ℕ)
fill = record {
  is =
      λ a x q. ((c : ℕ) × Fills c a q × (c ≢ open_brace) × (x ≡ Some c))
      ⊎ (NoneFills a.text × (x ≡ None) × (q ≡ a));
  is_not = λ a f. (q : At) × Fills open_brace a q × (f ≡ parse (no_fill a.place));
}

-- the parts of a spec
abbrev pub parts : (start : ℕ) → Part Request
parts start =
    do
      fill ← fill
      alignment ← letter alignment_letter alignments.Unset
      from_sign start fill alignment

-- nothing is read: there is at most one character, or a `}` comes first
abbrev pub IsUnread : (text : List ℕ) → Type 0
IsUnread text = (length text ≤ 1) ⊎ IsFirst close_brace text

-- the text after the colon of the argument that begins at `start`: plain display, if nothing is
-- read; else the parts are there
abbrev pub spec : (start : ℕ) → Part Request
spec start = record {
  is =
      λ a x q. (IsUnread a.text × (x ≡ plain_display) × (q ≡ a))
      ⊎ ((¬ IsUnread a.text) × (parts start).is a x q);
  is_not = λ a f. (¬ IsUnread a.text) × (parts start).is_not a f;
}

-- the spec of x follows the colon, and after it comes the text at q
abbrev pub IsSpec : (start : ℕ) → (a : At) → (x : Request) → (q : At) → Type 0
IsSpec start = (spec start).is

-- no spec follows the colon, for this reason
abbrev pub IsNoSpec : (start : ℕ) → (a : At) → (f : Fault) → Type 0
IsNoSpec start = (spec start).is_not
