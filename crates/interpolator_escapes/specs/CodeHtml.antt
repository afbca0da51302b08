-- The states of the reader of HTML in the code, which stores two names, as the states that are
-- defined.
use Rattle.std.specs.Prelude.{ℕ, Bool, true, false, List}
use Rattle.interpolator_escapes.specs.Html.{Quote, double, single, Kind, plain, read_again, address}
use Rattle.interpolator_escapes.specs.Html.{in_text, in_value, HtmlState, in_base}
use Rattle.interpolator_escapes.specs.Html.{in_reference, opened, closing, marked, marked_dash}
use Rattle.interpolator_escapes.specs.Html.{declared, comment, comment_dash, comment_dashes, named}
use Rattle.interpolator_escapes.specs.Html.{spaced, in_name, after_name, before_value}
use Rattle.interpolator_escapes.specs.Html.{in_bare_value, in_raw, raw_opened, raw_closing, lost}
use Rattle.interpolator_escapes.specs.declared.readers.html.HtmlReader.{HtmlReader}
use Rattle.interpolator_escapes.specs.declared.readers.html.names.Phase.{Phase}
use Rattle.interpolator_escapes.specs.declared.readers.html.names.Phase.TheVariants as phases
use Rattle.interpolator_escapes.specs.declared.readers.html.names.Quotes.{Quotes}
use Rattle.interpolator_escapes.specs.declared.readers.html.names.Quotes.TheVariants.{Double}
use Rattle.interpolator_escapes.specs.declared.readers.html.names.Quotes.TheVariants.{Single}
use Rattle.interpolator_escapes.specs.declared.readers.html.names.ValueKind.{ValueKind}
use Rattle.interpolator_escapes.specs.declared.readers.html.names.ValueKind.TheVariants as kinds

abbrev pub quote_of : Quotes → Quote
quote_of Double = double
quote_of Single = single

-- a value's kind; of an address, the name is what was read of it
abbrev pub kind_in : ValueKind → (name : List ℕ) → Kind
kind_in kinds.Plain name = plain
kind_in kinds.ReadAgain name = read_again
kind_in kinds.Address name = address name

-- a value's kind after `&`
abbrev pub settled : ValueKind → Kind
settled kinds.Plain = plain
settled kinds.ReadAgain = read_again
settled kinds.Address = read_again

-- the state, of a tag's element and of the name that is read in it
abbrev pub html_state_in : Phase → Quotes → ValueKind → (element name : List ℕ) → HtmlState
html_state_in phases.InText q k e n = in_base in_text
html_state_in phases.InValue q k e n = in_base (in_value (quote_of q) e (kind_in k n))
html_state_in phases.TextReference q k e n = in_reference in_text n
html_state_in phases.ValueReference q k e n = in_reference (in_value (quote_of q) e (settled k)) n
html_state_in phases.Opened q k e n = opened
html_state_in phases.Closing q k e n = closing
html_state_in phases.Marked q k e n = marked
html_state_in phases.MarkedDash q k e n = marked_dash
html_state_in phases.Declared q k e n = declared
html_state_in phases.Comment q k e n = comment
html_state_in phases.CommentDash q k e n = comment_dash
html_state_in phases.CommentDashes q k e n = comment_dashes
html_state_in phases.NameBegins q k e n = named true e
html_state_in phases.NameEnds q k e n = named false e
html_state_in phases.Spaced q k e n = spaced e
html_state_in phases.InName q k e n = in_name e n
html_state_in phases.AfterName q k e n = after_name e n
html_state_in phases.BeforeValue q k e n = before_value e n
html_state_in phases.InBareValue q k e n = in_bare_value e
html_state_in phases.InRaw q k e n = in_raw e
html_state_in phases.RawOpened q k e n = raw_opened e
html_state_in phases.RawClosing q k e n = raw_closing e n
html_state_in phases.Lost q k e n = lost

abbrev pub html_state : HtmlReader → HtmlState
html_state r = html_state_in r.phase r.quotes r.kind r.element.items r.name.items

-- whether a character in this phase may add to a name
abbrev pub takes_memory : Phase → Bool
takes_memory phases.Closing = true
takes_memory phases.NameBegins = true
takes_memory phases.NameEnds = true
takes_memory phases.Spaced = true
takes_memory phases.InName = true
takes_memory phases.AfterName = true
takes_memory phases.RawOpened = true
takes_memory _ = false
