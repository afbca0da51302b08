-- A list of whole fields, with a comma between two, is a record.
use Rattle.std.proofs.Common.{◌≡◌, ℕ, List, [], ◌∷◌, ◌++◌, refl, ap, sym, ◌∙◌, append-nil, map}
use Rattle.std.proofs.Common.{codes, Option, Some, None}
use Rattle.interpolator_render.specs.Texts.{ViewText, has_text, has_no_text, has_failed}
use Rattle.interpolator_render.specs.declared.view.Trait.{Trait}
use Rattle.interpolator_render.specs.declared.view.Trait.TheVariants.{Debug}
use Rattle.interpolator_render.specs.{declared.view.Spec.Spec, Views.Shown}
use Rattle.interpolator_syntax.specs.SpecTexts.{spec_from_sign, spec_after, plain_spec}
use Rattle.interpolator_syntax.specs.{Arguments.argument_at, Places.outermost, Places.text_of}
use Rattle.interpolator_syntax.specs.{Groups.group_at, Lists.list_at, Nodes.nodes}
use Rattle.interpolator_syntax.specs.{Pieces.argument_from, Ranges.range_at, Tokens.first_token}
use Rattle.interpolator_eval.specs.Slots.{Slots, values_of, items, slot_at}
use Rattle.interpolator_eval.specs.Meaning.Environments.{Environment, slots_under}
use Rattle.interpolator_eval.specs.{Meaning.Choices.chosen_items, Meaning.Meanings.means}
use Rattle.interpolator_escapes.specs.Csv.{CsvState, field_start, quote_seen}
use Rattle.interpolator_escapes.specs.Fields.{field_value, record_shows}
use Rattle.interpolator_escapes.specs.FormatParts.{as_it_is, found_parts, items_parts, parts_after}
use Rattle.interpolator_escapes.specs.FormatParts.{value_parts, view_parts}
use Rattle.interpolator_escapes.specs.Parts.{Part, literal}
use Rattle.interpolator_escapes.specs.RecordFormats.{field_end, fields_format, fields_read}
use Rattle.interpolator_escapes.specs.RecordFormats.{field_shown, item_field, record_parts}
use Rattle.interpolator_escapes.specs.RecordFormats.{record_values, StandsAsRecord}
use Rattle.interpolator_escapes.specs.Records.{fields_of, text_or_empty}
use Rattle.interpolator_escapes.specs.{Languages.read_by, declared.escape.Escape.TheVariants.Csv}
use Rattle.interpolator_escapes.proofs.{FieldLemmas.same_fields, RecordFormatLemmas.record_read}
use Rattle.interpolator_escapes.proofs.{RecordLemmas.content_first, RowLemmas.take_all}

row_stands : StandsAsRecord (outermost fields_format)
unfolding nodes first_token argument_from argument_at spec_after spec_from_sign list_at range_at
    group_at
row_stands = (field_end 7, refl)

module _ {X : Type 0} (shows : X → Trait → Spec → Shown) where
  abbrev Of : X → Trait → Spec → List Part
  Of = record_values shows

  -- an item
  abbrev ItemParts : Slots X → List Part
  ItemParts item = value_parts as_it_is Of Debug plain_spec (slot_at Debug (values_of item)) ++ []

  -- what comes between two
  abbrev Border : List Part
  Border = literal (44 ∷ []) ∷ []

  abbrev RowParts : List (Slots X) → List Part
  RowParts xs = items_parts Border ItemParts xs

  row_parts : (e : Environment X) → record_parts shows e (outermost fields_format)
      ≡ found_parts (λ found. found_parts (λ xs. RowParts (chosen_items None xs)) (items found))
      (slots_under e (codes "row")) ++ []
  unfolding nodes first_token argument_from argument_at spec_after spec_from_sign list_at range_at
      group_at
  row_parts e = refl

  found_row : (e : Environment X) (found : Slots X) (xs : List (Slots X))
      → slots_under e (codes "row") ≡ Some found → items found ≡ Some xs
      → record_parts shows e (outermost fields_format) ≡ RowParts xs
  found_row e found xs h j = rw (row_parts e, h, j, take_all xs) (append-nil (RowParts xs))

  -- ---- their fields

  abbrev Fields : CsvState → List Part → List (List ℕ)
  Fields s ps = fields_of (fields_read s ps)

  -- behind a field, or where one begins, come these
  record Follow (ps : List Part) (texts : List (List ℕ)) : Type 0 where
    behind : Fields quote_seen ps ≡ [] ∷ texts
    begun : Fields field_start ps ≡ [] ∷ texts

  view_first : (v : ViewText) (ps : List Part) (texts : List (List ℕ)) → Follow ps texts
      → Fields field_start (view_parts v ++ ps) ≡ text_or_empty v ∷ texts
  view_first (has_text cs) ps texts h = content_first cs (fields_read quote_seen ps) texts h.behind
  view_first has_no_text ps texts h = h.begun
  view_first has_failed ps texts h = h.begun

  slot_first : (o : Option X) (ps : List Part) (texts : List (List ℕ)) → Follow ps texts
      → Fields field_start (value_parts as_it_is Of Debug plain_spec o ++ ps)
      ≡ field_shown shows o ∷ texts
  slot_first None ps texts h = h.begun
  slot_first (Some x) ps texts h =
      view_first (field_value (shows x Debug plain_spec) plain_spec) ps texts h

  item_first : (item : Slots X) (ps : List Part) (texts : List (List ℕ)) → Follow ps texts
      → Fields field_start (ItemParts item ++ ps) ≡ item_field shows item ∷ texts
  item_first item ps texts h =
      let o = slot_at Debug (values_of item) in
      ap (λ (qs : List Part). Fields field_start (qs ++ ps))
      (append-nil (value_parts as_it_is Of Debug plain_spec o))
      ∙ slot_first o ps texts h

  after_follow : (xs : List (Slots X))
      → Follow (parts_after Border ItemParts xs) (map (item_field shows) xs)
  after_follow [] = record { behind = refl; begun = refl }
  after_follow (x ∷ xs) =
      let next = item_first x (parts_after Border ItemParts xs) (map (item_field shows) xs)
      (after_follow xs) in
      record {
        behind = ap (λ (fields : List (List ℕ)). [] ∷ fields) next;
        begun = ap (λ (fields : List (List ℕ)). [] ∷ fields) next;
      }

  pub row_read : (e : Environment X) (found x : Slots X) (xs : List (Slots X))
      → slots_under e (codes "row") ≡ Some found → items found ≡ Some (x ∷ xs)
      → (means (record_shows shows) e (outermost fields_format)).fault ≡ None
      → fields_of (read_by Csv
      (text_of (means (record_shows shows) e (outermost fields_format)).text))
      ≡ map (item_field shows) (x ∷ xs)
  row_read e found x xs h j none =
      sym (same_fields (read_by Csv
      (text_of (means (record_shows shows) e (outermost fields_format)).text)))
      ∙ ap fields_of (record_read shows e (outermost fields_format) row_stands none)
      ∙ ap (λ ps. fields_of (fields_read field_start ps)) (found_row e found (x ∷ xs) h j)
      ∙ item_first x (parts_after Border ItemParts xs) (map (item_field shows) xs) (after_follow xs)
