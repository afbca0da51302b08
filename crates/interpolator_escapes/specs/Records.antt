-- Records of CSV: what is written of one, and the fields that are read.
use Rattle.std.specs.Prelude.{ℕ, List, [], ◌∷◌, ◌++◌, ◌==◌, if◌then◌else◌, Option, Some, None}
use Rattle.std.specs.Prelude.{codes}
use Rattle.interpolator_render.specs.Texts.{ViewText, has_text, has_no_text, has_failed, view_text}
use Rattle.interpolator_render.specs.declared.view.Trait.{Trait}
use Rattle.interpolator_render.specs.declared.view.Trait.TheVariants.{Display}
use Rattle.interpolator_render.specs.{declared.view.Spec.Spec, Views.Shown}
use Rattle.interpolator_syntax.specs.SpecTexts.{plain_spec}
use Rattle.interpolator_eval.specs.Slots.{Slots, values_of, slot_at}
use Rattle.interpolator_escapes.specs.Readers.{Token, content, structure}
use Rattle.interpolator_escapes.specs.{Escapes.escaped, declared.escape.Escape.TheVariants.Csv}

-- a field between quotes, escaped
abbrev pub quoted_field : List ℕ → List ℕ
quoted_field text = 34 ∷ (escaped Csv text ++ 34 ∷ [])

-- fields, each after a comma
abbrev pub fields_after : List (List ℕ) → List ℕ
fields_after [] = []
fields_after (text ∷ texts) = 44 ∷ (quoted_field text ++ fields_after texts)

-- fields, with a comma between two
abbrev pub quoted_record : List (List ℕ) → List ℕ
quoted_record [] = []
quoted_record (text ∷ texts) = quoted_field text ++ fields_after texts

-- one character more at the front of the first field
abbrev pub first_and : ℕ → List (List ℕ) → List (List ℕ)
first_and c [] = (c ∷ []) ∷ []
first_and c (text ∷ texts) = (c ∷ text) ∷ texts

-- the fields of the first record, in what was read: a comma ends a field, a quote is around one, and
-- any other structure ends the record
abbrev pub fields_of : List Token → List (List ℕ)
fields_of [] = [] ∷ []
fields_of (content c ∷ ts) = first_and c (fields_of ts)
fields_of (structure c ∷ ts) =
    if c == 44 then [] ∷ fields_of ts else (if c == 34 then fields_of ts else [] ∷ [])

-- ---- a list as a record

-- the items of `row`, with a quote, a comma and a quote between two, all between quotes
abbrev pub row_format : List ℕ
row_format = codes "\"{row:i({})(\",\")}\""

-- the text of a view, empty if there is none
abbrev pub text_or_empty : ViewText → List ℕ
text_or_empty (has_text cs) = cs
text_or_empty has_no_text = []
text_or_empty has_failed = []

module _ {X : Type 0} (shows : X → Trait → Spec → Shown) where
  -- what is displayed plainly, nothing if there is nothing
  abbrev pub displayed : Option X → List ℕ
  displayed None = []
  displayed (Some x) = text_or_empty (view_text (shows x Display plain_spec) Display plain_spec)

  -- what an item displays
  abbrev pub item_text : Slots X → List ℕ
  item_text item = displayed (slot_at Display (values_of item))
