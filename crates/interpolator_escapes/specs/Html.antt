-- Reading HTML: text, tags, and the values of attributes between quotes.
use Rattle.std.specs.Prelude.{ℕ, ◌+◌, List, [], ◌∷◌, ◌++◌, ◌==◌, ◌||◌, ◌&&◌, if◌then◌else◌, Bool}
use Rattle.std.specs.Prelude.{true, false, codes, map, nat_lt, take}
use Rattle.std.specs.Str.{bytes_eq}
use Rattle.interpolator_render.specs.{declared.view.Spec.Spec, declared.view.Trait.Trait}
use Rattle.interpolator_escapes.specs.Readers.{Token, content, structure}

-- ---- words and characters

-- one of these words
abbrev pub is_one_of : List ℕ → List (List ℕ) → Bool
is_one_of name [] = false
is_one_of name (word ∷ words) = bytes_eq name word || is_one_of name words

-- a letter
abbrev pub is_letter : ℕ → Bool
is_letter c = (nat_lt 64 c && nat_lt c 91) || (nat_lt 96 c && nat_lt c 123)

-- a capital letter as a small one
abbrev pub lower : ℕ → ℕ
lower c = if nat_lt 64 c && nat_lt c 91 then c + 32 else c

-- a space, a tab or an end of a line
abbrev pub is_space : ℕ → Bool
is_space c = (c == 32) || (c == 9) || (c == 10) || (c == 12) || (c == 13)

-- a letter, a digit or `#`
abbrev pub is_in_reference : ℕ → Bool
is_in_reference c = is_letter c || (nat_lt 47 c && nat_lt c 58) || (c == 35)

-- what a reference that ends with `;` stands for, if it is one of those that an escape writes
abbrev pub reference_meaning : List ℕ → List Token
reference_meaning name =
    if bytes_eq name (codes "amp") then content 38 ∷ [] else
    (if bytes_eq name (codes "lt") then content 60 ∷ [] else
    (if bytes_eq name (codes "gt") then content 62 ∷ [] else
    (if bytes_eq name (codes "quot") then content 34 ∷ [] else
    (if bytes_eq name (codes "#39") then content 39 ∷ [] else
    content 38 ∷ (map content name ++ content 59 ∷ [])))))

-- ---- elements

-- the elements whose text a reader may take as it stands, up to the tag that ends them
abbrev pub is_raw : List ℕ → Bool
is_raw element = is_one_of element (codes "script" ∷ codes "style" ∷ codes "title"
    ∷ codes "textarea" ∷ codes "iframe" ∷ codes "xmp" ∷ codes "noscript" ∷ codes "noembed"
    ∷ codes "noframes" ∷ [])

-- ---- attributes

-- what an attribute's value is: a text; a script, a style or a page, which is read once more; or an
-- address, of which these characters were read
pub data Kind : Type 0 where
  plain : Kind
  read_again : Kind
  address : List ℕ → Kind

-- by the attribute's name
abbrev pub kind_of : List ℕ → Kind
kind_of name =
    if bytes_eq (take 2 name) (codes "on") || is_one_of name (codes "style" ∷ codes "srcdoc" ∷ [])
    then read_again else
    (if is_one_of name (codes "href" ∷ codes "src" ∷ codes "action" ∷ codes "formaction"
    ∷ codes "data" ∷ codes "xlink:href" ∷ [])
    then address [] else plain)

-- the schemes whose addresses run nothing
abbrev pub is_scheme : List ℕ → Bool
is_scheme name =
    is_one_of name (codes "http" ∷ codes "https" ∷ codes "mailto" ∷ codes "tel" ∷ [])

-- after one more character: past `/`, `?` or `#` an address has no scheme any more; before `:` it
-- is one, and a reference may hide one
abbrev pub kind_after : Kind → ℕ → Kind
kind_after (address seen) c =
    if (c == 47) || (c == 63) || (c == 35) then plain else
    (if c == 58 then (if is_scheme seen then plain else read_again) else
    (if c == 38 then read_again else address (seen ++ lower c ∷ [])))
kind_after k c = k

-- ---- states

-- the quotes around a value
pub data Quote : Type 0 where
  double : Quote
  single : Quote

abbrev pub quote_code : Quote → ℕ
quote_code double = 34
quote_code single = 39

-- where references are read: in text, or in an attribute's value, in the tag that begins an element
pub data Base : Type 0 where
  in_text : Base
  in_value : Quote → (element : List ℕ) → Kind → Base

-- where a reader is. An element is empty in a tag that ends one.
pub data HtmlState : Type 0 where
  -- where references are read
  in_base : Base → HtmlState
  -- there, after `&` and these characters
  in_reference : Base → List ℕ → HtmlState
  -- after `<`, `</`, `<!` and `<!-`
  opened : HtmlState
  closing : HtmlState
  marked : HtmlState
  marked_dash : HtmlState
  -- up to `>`
  declared : HtmlState
  -- in a comment, after none, one or two dashes
  comment : HtmlState
  comment_dash : HtmlState
  comment_dashes : HtmlState
  -- in the name of a tag, which begins an element or ends one
  named : (begins : Bool) → (name : List ℕ) → HtmlState
  -- before an attribute, in its name, after that, and after `=`
  spaced : (element : List ℕ) → HtmlState
  in_name : (element name : List ℕ) → HtmlState
  after_name : (element name : List ℕ) → HtmlState
  before_value : (element name : List ℕ) → HtmlState
  -- in a value without quotes
  in_bare_value : (element : List ℕ) → HtmlState
  -- in the text of a raw element, after `<` there, and after `</`, with what is left of its name
  in_raw : (element : List ℕ) → HtmlState
  raw_opened : (element : List ℕ) → HtmlState
  raw_closing : (element rest : List ℕ) → HtmlState
  -- from where on readers differ
  lost : HtmlState

-- ---- tags, by the states of HTML's tokenizer

-- after a tag
abbrev pub past_tag : (element : List ℕ) → HtmlState
past_tag element =
    if is_raw element then in_raw element else
    (if bytes_eq element (codes "plaintext") then lost else in_base in_text)

-- after a character of a declaration
abbrev pub in_declared : ℕ → HtmlState
in_declared c = if c == 62 then in_base in_text else declared

-- after `</` and a character
abbrev pub past_closing : ℕ → HtmlState
past_closing c = if is_letter c then named false (lower c ∷ []) else in_declared c

-- after `<!` and a character
abbrev pub past_mark : ℕ → HtmlState
past_mark c = if c == 45 then marked_dash else (if c == 91 then lost else in_declared c)

abbrev pub past_mark_dash : ℕ → HtmlState
past_mark_dash c = if c == 45 then comment_dashes else in_declared c

-- after two dashes: `>` ends a comment; `!` may
abbrev pub past_dashes : ℕ → HtmlState
past_dashes c =
    if c == 45 then comment_dashes else
    (if c == 62 then in_base in_text else (if c == 33 then lost else comment))

-- in a tag's name
abbrev pub in_named : (begins : Bool) → (name : List ℕ) → ℕ → HtmlState
in_named begins name c =
    if c == 62 then past_tag (if begins then name else []) else
    (if is_space c || (c == 47) then spaced (if begins then name else [])
    else named begins (name ++ lower c ∷ []))

-- before an attribute
abbrev pub in_spaced : (element : List ℕ) → ℕ → HtmlState
in_spaced element c =
    if c == 62 then past_tag element else
    (if is_space c || (c == 47) then spaced element else in_name element (lower c ∷ []))

-- in its name
abbrev pub past_name : (element name : List ℕ) → ℕ → HtmlState
past_name element name c =
    if c == 61 then before_value element name else
    (if is_space c then after_name element name else
    (if (c == 62) || (c == 47) then in_spaced element c
    else in_name element (name ++ lower c ∷ [])))

-- after it
abbrev pub past_named : (element name : List ℕ) → ℕ → HtmlState
past_named element name c =
    if c == 61 then before_value element name else
    (if is_space c then after_name element name else in_spaced element c)

-- after `=`
abbrev pub past_equals : (element name : List ℕ) → ℕ → HtmlState
past_equals element name c =
    if c == 34 then in_base (in_value double element (kind_of name)) else
    (if c == 39 then in_base (in_value single element (kind_of name)) else
    (if c == 62 then past_tag element else
    (if is_space c then before_value element name else in_bare_value element)))

-- in a value without quotes
abbrev pub past_bare : (element : List ℕ) → ℕ → HtmlState
past_bare element c =
    if c == 62 then past_tag element else
    (if is_space c then spaced element else in_bare_value element)

-- ---- raw elements: a `<` that may be more than a character, but for the tag that ends them, is
-- read in one way in a page and in another in a drawing

abbrev pub past_raw_open : (element : List ℕ) → ℕ → HtmlState
past_raw_open element c =
    if c == 47 then raw_closing element element else
    (if c == 60 then raw_opened element else
    (if is_letter c || (c == 33) || (c == 63) then lost else in_raw element))

abbrev pub past_raw_close : (element rest : List ℕ) → ℕ → HtmlState
past_raw_close element [] c =
    if c == 62 then in_base in_text else
    (if is_space c || (c == 47) then spaced [] else lost)
past_raw_close element (letter ∷ rest) c =
    if lower c == letter then raw_closing element rest else lost

-- ---- the reader

-- the character at which a base ends, and the state after it
abbrev pub end_of : Base → ℕ
end_of in_text = 60
end_of (in_value quote element kind) = quote_code quote

abbrev pub past_base : Base → HtmlState
past_base in_text = opened
past_base (in_value quote element kind) = spaced element

-- a base after one more character
abbrev pub base_after : Base → ℕ → Base
base_after in_text c = in_text
base_after (in_value quote element kind) c = in_value quote element (kind_after kind c)

abbrev pub base_step : Base → ℕ → HtmlState × List Token
base_step b c =
    if c == end_of b then (past_base b, structure c ∷ []) else
    (if c == 38 then (in_reference (base_after b c) [], []) else
    (in_base (base_after b c), content c ∷ []))

-- after `<` and a character: if it can begin no tag, both are text
abbrev pub open_step : ℕ → HtmlState × List Token
open_step c =
    if is_letter c then (named true (lower c ∷ []), structure c ∷ []) else
    (if c == 47 then (closing, structure c ∷ []) else
    (if c == 33 then (marked, structure c ∷ []) else
    (if c == 63 then (declared, structure c ∷ []) else base_step in_text c)))

-- the state after a character outside of text and values
abbrev pub markup_after : HtmlState → ℕ → HtmlState
markup_after closing c = past_closing c
markup_after marked c = past_mark c
markup_after marked_dash c = past_mark_dash c
markup_after declared c = in_declared c
markup_after comment c = if c == 45 then comment_dash else comment
markup_after comment_dash c = if c == 45 then comment_dashes else comment
markup_after comment_dashes c = past_dashes c
markup_after (named begins name) c = in_named begins name c
markup_after (spaced element) c = in_spaced element c
markup_after (in_name element name) c = past_name element name c
markup_after (after_name element name) c = past_named element name c
markup_after (before_value element name) c = past_equals element name c
markup_after (in_bare_value element) c = past_bare element c
markup_after (in_raw element) c = if c == 60 then raw_opened element else in_raw element
markup_after (raw_opened element) c = past_raw_open element c
markup_after (raw_closing element rest) c = past_raw_close element rest c
markup_after s c = lost

-- a character, read
abbrev pub html_step : HtmlState → ℕ → HtmlState × List Token
html_step (in_base b) c = base_step b c
html_step (in_reference b name) c =
    if c == 59 then (in_base b, reference_meaning name) else
    (if is_in_reference c then (in_reference b (name ++ c ∷ []), [])
    else ((base_step b c).0, content 38 ∷ (map content name ++ (base_step b c).1)))
html_step opened c = open_step c
html_step s c = (markup_after s c, structure c ∷ [])

-- a value may stand in text, and in the value of an attribute that is a text, between quotes
abbrev pub is_text_or_value : HtmlState → Bool
is_text_or_value (in_base in_text) = true
is_text_or_value (in_base (in_value quote element plain)) = true
is_text_or_value _ = false

abbrev pub is_html_place : HtmlState → Trait → Spec → Bool
is_html_place s t spec = is_text_or_value s

-- a reader at the beginning of a page
abbrev pub html_start : HtmlState
html_start = in_base in_text
