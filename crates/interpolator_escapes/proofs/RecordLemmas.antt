-- A record of texts between quotes is read as these texts.
use Rattle.std.proofs.Common.{◌≡◌, ℕ, List, [], ◌∷◌, ◌++◌, refl, ap, append_assoc, append-nil}
use Rattle.std.proofs.Common.{flat_map, map, sym, ◌∙◌, inl}
use Rattle.interpolator_escapes.specs.Csv.{csv_step, is_csv_place, field_start, quoted, quote_seen}
use Rattle.interpolator_escapes.specs.Readers.{Token, content, read}
use Rattle.interpolator_escapes.specs.Records.{fields_after, fields_of, quoted_field, quoted_record}
use Rattle.interpolator_escapes.specs.{Escapes.csv_escape, Languages.read_by}
use Rattle.interpolator_escapes.specs.declared.escape.Escape.TheVariants.{Csv}
use Rattle.interpolator_escapes.proofs.KeepLemmas.{csv_keeps, csv_plain}
use Rattle.interpolator_escapes.proofs.ReaderLemmas.{read-append, value_state, value_read}

-- the text of a field goes to the front of the first one after it
pub content_first : (text : List ℕ) (ts : List Token) (texts : List (List ℕ))
    → fields_of ts ≡ [] ∷ texts → fields_of (map content text ++ ts) ≡ text ∷ texts
content_first [] ts texts h = h
content_first (c ∷ text) ts texts h = rw (content_first text ts texts h) refl

-- what is read after a quote that ends a field
abbrev Behind : List ℕ → List Token
Behind cs = read csv_step quote_seen cs

field_read : (text cs : List ℕ)
    → read csv_step quoted (flat_map csv_escape text ++ 34 ∷ cs) ≡ map content text ++ Behind cs
field_read text cs =
    rw (
      read-append csv_step quoted (flat_map csv_escape text) (34 ∷ cs),
      value_state csv_step is_csv_place csv_escape csv_keeps csv_plain quoted text (inl refl),
      value_read csv_step is_csv_place csv_escape csv_keeps csv_plain quoted text (inl refl),
    ) refl

field_first : (text cs : List ℕ) (texts : List (List ℕ)) → fields_of (Behind cs) ≡ [] ∷ texts
    → fields_of (read csv_step field_start (quoted_field text ++ cs)) ≡ text ∷ texts
field_first text cs texts h =
    rw (append_assoc (flat_map csv_escape text) (34 ∷ []) cs, field_read text cs)
    (content_first text (Behind cs) texts h)

module _ (end : List ℕ) (ends : fields_of (Behind end) ≡ [] ∷ []) where
  after_read : (texts : List (List ℕ)) → fields_of (Behind (fields_after texts ++ end)) ≡ [] ∷ texts
  after_read [] = ends
  after_read (text ∷ texts) =
      ap (λ fields. [] ∷ fields) (ap (λ cs. fields_of (read csv_step field_start cs))
      (append_assoc (quoted_field text) (fields_after texts) end)
      ∙ field_first text (fields_after texts ++ end) texts (after_read texts))

  record_read : (text : List ℕ) (texts : List (List ℕ))
      → fields_of (read_by Csv (quoted_record (text ∷ texts) ++ end)) ≡ text ∷ texts
  record_read text texts =
      ap (λ cs. fields_of (read csv_step field_start cs))
      (append_assoc (quoted_field text) (fields_after texts) end)
      ∙ field_first text (fields_after texts ++ end) texts (after_read texts)

pub line_read : (text : List ℕ) (texts : List (List ℕ)) (rest : List ℕ)
    → fields_of (read_by Csv (quoted_record (text ∷ texts) ++ 10 ∷ rest)) ≡ text ∷ texts
line_read text texts rest = record_read (10 ∷ rest) refl text texts

pub last_read : (text : List ℕ) (texts : List (List ℕ))
    → fields_of (read_by Csv (quoted_record (text ∷ texts))) ≡ text ∷ texts
last_read text texts =
    ap (λ cs. fields_of (read_by Csv cs)) (sym (append-nil (quoted_record (text ∷ texts))))
    ∙ record_read [] refl text texts
