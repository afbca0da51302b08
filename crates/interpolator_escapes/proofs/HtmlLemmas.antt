-- References of HTML have no structure, and each phase has states of its own.
use Rattle.std.proofs.Common.{◌≡◌, ℕ, true, false, List, [], ◌∷◌, ◌++◌, refl, arith, map, sym, ap}
use Rattle.std.proofs.Common.{◌∙◌}
use Rattle.interpolator_escapes.specs.Html.{reference_meaning, in_text, in_value, HtmlState}
use Rattle.interpolator_escapes.specs.Html.{in_base, in_reference, opened, closing, marked}
use Rattle.interpolator_escapes.specs.Html.{marked_dash, declared, comment, comment_dash}
use Rattle.interpolator_escapes.specs.Html.{comment_dashes, named, spaced, in_name, after_name}
use Rattle.interpolator_escapes.specs.Html.{before_value, in_bare_value, in_raw, raw_opened}
use Rattle.interpolator_escapes.specs.Html.{raw_closing, lost}
use Rattle.interpolator_escapes.specs.{Readers.Token, Readers.content, CodeReaders.has_structure}
use Rattle.interpolator_escapes.specs.{CodeHtml.html_state, CodeHtml.html_state_in}
use Rattle.interpolator_escapes.specs.declared.readers.html.HtmlReader.{HtmlReader}
use Rattle.interpolator_escapes.specs.declared.readers.html.names.Phase.{Phase}
use Rattle.interpolator_escapes.specs.declared.readers.html.names.Phase.TheVariants as phases
use Rattle.interpolator_escapes.specs.declared.readers.html.names.Quotes.{Quotes}
use Rattle.interpolator_escapes.specs.declared.readers.html.names.ValueKind.{ValueKind}

-- characters of a name add no structure
pub name_quiet : (name : List ℕ) (ts : List Token)
    → has_structure (map content name ++ ts) ≡ has_structure ts
name_quiet [] ts = refl
name_quiet (c ∷ cs) ts = name_quiet cs ts

-- nor does what a reference stands for
pub meaning_quiet : (name : List ℕ) → has_structure (reference_meaning name) ≡ false
meaning_quiet name = grind (arith, name_quiet)

-- ---- phases

-- the phase of a state
phase_of : HtmlState → Phase
phase_of (in_base in_text) = phases.InText
phase_of (in_base (in_value q e k)) = phases.InValue
phase_of (in_reference in_text n) = phases.TextReference
phase_of (in_reference (in_value q e k) n) = phases.ValueReference
phase_of opened = phases.Opened
phase_of closing = phases.Closing
phase_of marked = phases.Marked
phase_of marked_dash = phases.MarkedDash
phase_of declared = phases.Declared
phase_of comment = phases.Comment
phase_of comment_dash = phases.CommentDash
phase_of comment_dashes = phases.CommentDashes
phase_of (named true e) = phases.NameBegins
phase_of (named false e) = phases.NameEnds
phase_of (spaced e) = phases.Spaced
phase_of (in_name e n) = phases.InName
phase_of (after_name e n) = phases.AfterName
phase_of (before_value e n) = phases.BeforeValue
phase_of (in_bare_value e) = phases.InBareValue
phase_of (in_raw e) = phases.InRaw
phase_of (raw_opened e) = phases.RawOpened
phase_of (raw_closing e n) = phases.RawClosing
phase_of lost = phases.Lost

phase_recovered : (p : Phase) (q : Quotes) (k : ValueKind) (e n : List ℕ)
    → phase_of (html_state_in p q k e n) ≡ p
unfolding phase_of
phase_recovered phases.InText q k e n = refl
phase_recovered phases.InValue q k e n = refl
phase_recovered phases.TextReference q k e n = refl
phase_recovered phases.ValueReference q k e n = refl
phase_recovered phases.Opened q k e n = refl
phase_recovered phases.Closing q k e n = refl
phase_recovered phases.Marked q k e n = refl
phase_recovered phases.MarkedDash q k e n = refl
phase_recovered phases.Declared q k e n = refl
phase_recovered phases.Comment q k e n = refl
phase_recovered phases.CommentDash q k e n = refl
phase_recovered phases.CommentDashes q k e n = refl
phase_recovered phases.NameBegins q k e n = refl
phase_recovered phases.NameEnds q k e n = refl
phase_recovered phases.Spaced q k e n = refl
phase_recovered phases.InName q k e n = refl
phase_recovered phases.AfterName q k e n = refl
phase_recovered phases.BeforeValue q k e n = refl
phase_recovered phases.InBareValue q k e n = refl
phase_recovered phases.InRaw q k e n = refl
phase_recovered phases.RawOpened q k e n = refl
phase_recovered phases.RawClosing q k e n = refl
phase_recovered phases.Lost q k e n = refl

-- readers in the same state are in the same phase
pub same_phases : (a b : HtmlReader) → html_state a ≡ html_state b → a.phase ≡ b.phase
same_phases a b h =
    sym (phase_recovered a.phase a.quotes a.kind a.element.items a.name.items)
    ∙ (ap phase_of h ∙ phase_recovered b.phase b.quotes b.kind b.element.items b.name.items)
