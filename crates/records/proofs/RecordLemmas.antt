-- Fields, one after the other.
use Rattle.std.proofs.Common.{◌≡◌, ℕ, List, [], ◌∷◌, ◌++◌, arith, refl, append_assoc, IsUtf8, ◌<◌}
use Rattle.records.specs.Records.{Begins, EndsLine, Opens}
use Rattle.records.specs.declared.separator.Separator.TheVariants.{Comma, Semicolon, Tab}
use Rattle.records.specs.{Marks.byte_of, Scans.HasField, Spellings.IsSpelled}
use Rattle.records.specs.declared.separator.Separator.{Separator}
use Rattle.records.proofs.ScanLemmas.{utf8_behind}

module _ (separator : Separator) where
  pub opens_more : (before : List (List ℕ)) (opening field written : List ℕ)
      → Opens separator before opening → IsSpelled separator field written
      → Opens separator (before ++ (field ∷ []))
      (opening ++ (written ++ (byte_of separator ∷ [])))
  opens_more [] opening field written e spelled =
      (written, [], rw e refl, spelled, refl)
  opens_more (first ∷ before) opening field written (w, rest, e, one, so_far) spelled = (
    w,
    rest ++ (written ++ (byte_of separator ∷ [])),
    rw (e, append_assoc w (byte_of separator ∷ rest) (written ++ (byte_of separator ∷ []))) refl,
    one,
    opens_more before rest field written so_far spelled,
  )

  low : byte_of separator < 128
  low = elim separator as (λ s. byte_of s < 128) [
    | Comma ↦ omega arith
    | Semicolon ↦ omega arith
    | Tab ↦ omega arith
  ]

  module _ (text opening rest field tail : List ℕ) (before all : List (List ℕ))
      (e : text ≡ opening ++ rest) (opens : Opens separator before opening)
      (has : HasField separator rest field tail) (pushed : all ≡ before ++ (field ∷ [])) where
    -- a field with a separator after it
    pub next_field : (next : List ℕ) → tail ≡ byte_of separator ∷ next
        → (opening : List ℕ) × (text ≡ opening ++ next) × Opens separator all opening
    next_field next s = (
      opening ++ (has.0 ++ (byte_of separator ∷ [])),
      rw (
        append_assoc opening (has.0 ++ (byte_of separator ∷ [])) next,
        append_assoc (has.0) (byte_of separator ∷ []) next,
        ← s,
        ← has.1,
      ) e,
      rw pushed (opens_more before opening field (has.0) opens (has.2)),
    )

    pub next_text : (next : List ℕ) → tail ≡ byte_of separator ∷ next → IsUtf8 rest → IsUtf8 next
    next_text next s u = utf8_behind rest (has.0) next (byte_of separator) u (rw s at (has.1)) low

    -- the last field
    pub last_field : (after : List ℕ) → EndsLine tail after → Begins separator all text after
    last_field after ends = record {
      written = opening ++ has.0;
      tail = tail;
      is = rw (append_assoc opening (has.0) tail, ← has.1) e;
      spells = record {
        before = before;
        last = field;
        all = pushed;
        opening = opening;
        written = has.0;
        is = refl;
        opens = opens;
        ends = has.2;
      };
      ends = ends;
    }
