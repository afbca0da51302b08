-- A list between quotes, with a quote, a comma and a quote between two items, is a record.
use Rattle.std.proofs.Common.{◌≡◌, ℕ, List, [], ◌∷◌, ◌++◌, refl, ap, sym, ◌∙◌, append_assoc}
use Rattle.std.proofs.Common.{append-nil, flat_map, map, codes, Option, Some, None, length, take}
use Rattle.interpolator_render.specs.Texts.{ViewText, has_text, has_no_text, has_failed, view_text}
use Rattle.interpolator_render.specs.declared.view.Trait.{Trait}
use Rattle.interpolator_render.specs.declared.view.Trait.TheVariants.{Display}
use Rattle.interpolator_render.specs.{declared.view.Spec.Spec, Views.Shown}
use Rattle.interpolator_syntax.specs.SpecTexts.{spec_from_sign, spec_after, plain_spec}
use Rattle.interpolator_syntax.specs.{Arguments.argument_at, Places.outermost, Places.text_of}
use Rattle.interpolator_syntax.specs.{Groups.group_at, Lists.list_at, Nodes.nodes}
use Rattle.interpolator_syntax.specs.{Pieces.argument_from, Ranges.range_at, Tokens.first_token}
use Rattle.interpolator_eval.specs.Slots.{Slots, values_of, items, slot_at}
use Rattle.interpolator_eval.specs.Meaning.Environments.{Environment, slots_under}
use Rattle.interpolator_eval.specs.{Meaning.Choices.chosen_items, Meaning.Meanings.means}
use Rattle.interpolator_escapes.specs.FormatParts.{view_parts, found_parts, parts_after}
use Rattle.interpolator_escapes.specs.FormatParts.{items_parts, value_parts, parts_by}
use Rattle.interpolator_escapes.specs.FormatParts.{escaped_value}
use Rattle.interpolator_escapes.specs.Parts.{Part, literal, assembled}
use Rattle.interpolator_escapes.specs.Records.{fields_after, fields_of, quoted_record, row_format}
use Rattle.interpolator_escapes.specs.Records.{text_or_empty, displayed, item_text}
use Rattle.interpolator_escapes.specs.{Escapes.csv_escape, Formats.escaped_shows, Languages.read_by}
use Rattle.interpolator_escapes.specs.declared.escape.Escape.TheVariants.{Csv}
use Rattle.interpolator_escapes.proofs.FormatPartLemmas.{whole-append, escaped_parts}
use Rattle.interpolator_escapes.proofs.RecordLemmas.{last_read}

pub take_all : {A : Type 0} (xs : List A) → take (length xs) xs ≡ xs
take_all [] = refl
take_all (x ∷ xs) = ap (λ ys. x ∷ ys) (take_all xs)

module _ {X : Type 0} (shows : X → Trait → Spec → Shown) where
  abbrev Of : X → Trait → Spec → List Part
  Of = escaped_value Csv shows

  -- an item
  abbrev ItemParts : Slots X → List Part
  ItemParts item =
      value_parts csv_escape Of Display plain_spec (slot_at Display (values_of item)) ++ []

  -- what comes between two
  abbrev Border : List Part
  Border = literal (34 ∷ 44 ∷ 34 ∷ []) ∷ []

  abbrev RowParts : List (Slots X) → List Part
  RowParts xs = items_parts Border ItemParts xs

  -- parts between quotes
  abbrev Quoted : List Part → List Part
  Quoted ps = literal (34 ∷ []) ∷ (ps ++ literal (34 ∷ []) ∷ [])

  row_parts : (e : Environment X) → parts_by Csv shows e (outermost row_format)
      ≡ Quoted (found_parts
      (λ found. found_parts (λ xs. RowParts (chosen_items None xs)) (items found))
      (slots_under e (codes "row")))
  unfolding nodes first_token argument_from argument_at spec_after spec_from_sign list_at range_at
      group_at
  row_parts e = refl

  found_row : (e : Environment X) (found : Slots X) (xs : List (Slots X))
      → slots_under e (codes "row") ≡ Some found → items found ≡ Some xs
      → parts_by Csv shows e (outermost row_format) ≡ Quoted (RowParts xs)
  found_row e found xs h j = rw (row_parts e, h, j, take_all xs) refl

  -- ---- their text

  abbrev Text : List Part → List ℕ
  Text ps = assembled csv_escape ps

  view_text_of : (v : ViewText) → Text (view_parts v) ≡ flat_map csv_escape (text_or_empty v)
  view_text_of (has_text cs) = append-nil (flat_map csv_escape cs)
  view_text_of has_no_text = refl
  view_text_of has_failed = refl

  slot_text : (o : Option X) → Text (value_parts csv_escape Of Display plain_spec o)
      ≡ flat_map csv_escape (displayed shows o)
  slot_text None = refl
  slot_text (Some x) = view_text_of (view_text (shows x Display plain_spec) Display plain_spec)

  item_whole : (item : Slots X)
      → Text (ItemParts item) ≡ flat_map csv_escape (item_text shows item)
  item_whole item =
      let ps = value_parts csv_escape Of Display plain_spec (slot_at Display (values_of item)) in
      ap Text (append-nil ps) ∙ slot_text (slot_at Display (values_of item))

  field_text : (item : Slots X) (rest : List Part) (texts : List (List ℕ))
      → Text rest ++ 34 ∷ [] ≡ 34 ∷ fields_after texts
      → Text (ItemParts item ++ rest) ++ 34 ∷ []
      ≡ (flat_map csv_escape (item_text shows item) ++ 34 ∷ []) ++ fields_after texts
  field_text item rest texts h =
      let field = flat_map csv_escape (item_text shows item) in
      ap (λ cs. cs ++ 34 ∷ []) (whole-append csv_escape (ItemParts item) rest
      ∙ ap (λ cs. cs ++ Text rest) (item_whole item))
      ∙ append_assoc field (Text rest) (34 ∷ [])
      ∙ ap (λ cs. field ++ cs) h
      ∙ sym (append_assoc field (34 ∷ []) (fields_after texts))

  after_text : (xs : List (Slots X)) → Text (parts_after Border ItemParts xs) ++ 34 ∷ []
      ≡ 34 ∷ fields_after (map (item_text shows) xs)
  after_text [] = refl
  after_text (x ∷ xs) =
      ap (λ cs. 34 ∷ 44 ∷ 34 ∷ cs) (field_text x (parts_after Border ItemParts xs)
      (map (item_text shows) xs) (after_text xs))

  row_text : (x : Slots X) (xs : List (Slots X))
      → Text (Quoted (RowParts (x ∷ xs))) ≡ quoted_record (map (item_text shows) (x ∷ xs))
  row_text x xs =
      ap (λ cs. 34 ∷ cs) (whole-append csv_escape (RowParts (x ∷ xs)) (literal (34 ∷ []) ∷ [])
      ∙ field_text x (parts_after Border ItemParts xs) (map (item_text shows) xs) (after_text xs))

  pub row_read : (e : Environment X) (found x : Slots X) (xs : List (Slots X))
      → slots_under e (codes "row") ≡ Some found → items found ≡ Some (x ∷ xs)
      → (means (escaped_shows Csv shows) e (outermost row_format)).fault ≡ None
      → fields_of (read_by Csv (text_of (means (escaped_shows Csv shows) e (outermost row_format)).text))
      ≡ map (item_text shows) (x ∷ xs)
  row_read e found x xs h j none =
      ap (λ cs. fields_of (read_by Csv cs)) (escaped_parts Csv shows e (outermost row_format) none
      ∙ ap Text (found_row e found (x ∷ xs) h j) ∙ row_text x xs)
      ∙ last_read (item_text shows x) (map (item_text shows) xs)
