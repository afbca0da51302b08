-- Records as they are written, field by field.
use Rattle.std.proofs.Common.{◌≡◌, ◌≢◌, ◌<◌, ◌+◌, ◌==◌, ◌∙◌, ℕ, Bool, true, List, [], ◌∷◌, ◌++◌}
use Rattle.std.proofs.Common.{append_assoc, ap, get_or, inr, length, map, refl, take}
use Rattle.std.proofs.lemmas.List.{map-append, map_more}
use Rattle.std.specs.Borrow.{Bor}
use Rattle.records.specs.Marks.{byte_of, line_feed, quote}
use Rattle.records.specs.Spellings.{IsSpelled, doubled}
use Rattle.records.specs.{Records.Opens, Written.IsWritten, declared.separator.Separator.Separator}
use Rattle.records.proofs.{QuoteLemmas.doubled-append, RecordLemmas.opens_more}

split_nil : {A : Type 0} (xs ys : List A) → xs ++ ys ≡ [] → (xs ≡ []) × (ys ≡ [])
split_nil [] ys e = (refl, e)
split_nil (x ∷ xs) ys e = absurd (cc)

-- past a quote, which is doubled
pub past_one : (whole out one two front after rest : List ℕ) → doubled front ≡ front
    → rest ≡ front ++ (quote ∷ after) → one ≡ out ++ front → two ≡ one ++ (quote ∷ quote ∷ [])
    → whole ≡ out ++ doubled rest → whole ≡ two ++ doubled after
past_one whole out one two front after rest same e first second so_far =
    rw (
      second,
      first,
      append_assoc (out ++ front) (quote ∷ quote ∷ []) (doubled after),
      append_assoc out front (quote ∷ quote ∷ doubled after),
    ) (rw (e, doubled-append front (quote ∷ after), same) at so_far)

abbrev texts : List (Bor (List ℕ)) → List (List ℕ)
texts fields = map (λ x. x.now) fields

module _ (separator : Separator) (old out mid new opening written : List ℕ)
    (opened : out ≡ old ++ opening) (wrote : mid ≡ out ++ written) where
  -- a field with a separator after it
  pub opening_more : (fields : List (Bor (List ℕ))) (n : ℕ) (field : Bor (List ℕ))
      → n < length fields → Opens separator (texts (take n fields)) opening
      → IsSpelled separator (get_or fields n field).now written
      → new ≡ mid ++ (byte_of separator ∷ [])
      → (more : List ℕ) × Opens separator (texts (take (n + 1) fields)) more × (new ≡ old ++ more)
  opening_more fields n field within opens spelled e = (
    opening ++ (written ++ (byte_of separator ∷ [])),
    rw (map_more (λ x. x.now) fields n field within)
        (opens_more separator (texts (take n fields)) opening (get_or fields n field).now written
        opens spelled),
    rw (
      e,
      wrote,
      opened,
      append_assoc (old ++ opening) written (byte_of separator ∷ []),
      append_assoc old opening (written ++ (byte_of separator ∷ [])),
    ) refl,
  )

  -- a record is no blank line
  not_blank : (others : List (Bor (List ℕ))) (is_alone : Bool) → Opens separator (texts others) opening
      → is_alone ≡ (length others == 0) → (is_alone ≡ true → written ≢ [])
      → opening ++ written ≢ []
  not_blank [] is_alone opens alone some none = some alone (split_nil opening written none).1
  not_blank (x ∷ others) is_alone (w, rest, e, _, _) alone some none =
      let empty = rw e at (split_nil opening written none).0 in
      let last = (split_nil w (byte_of separator ∷ rest) empty).1 in absurd (cc)

  -- the last field, and a line feed after it
  pub line_written : (fields others : List (Bor (List ℕ))) (last : Bor (List ℕ)) (is_alone : Bool)
      → fields ≡ others ++ (last ∷ []) → Opens separator (texts others) opening
      → IsSpelled separator last.now written → is_alone ≡ (length others == 0)
      → (is_alone ≡ true → written ≢ []) → new ≡ mid ++ (line_feed ∷ [])
      → (line : List ℕ) × (new ≡ old ++ line) × IsWritten separator (texts fields) line
  line_written fields others last is_alone e opens spelled alone some end = (
    (opening ++ written) ++ (line_feed ∷ []),
    rw (
      end,
      wrote,
      opened,
      append_assoc opening written (line_feed ∷ []),
      append_assoc (old ++ opening) written (line_feed ∷ []),
      append_assoc old opening (written ++ (line_feed ∷ [])),
    ) refl,
    inr (
      opening ++ written,
      not_blank others is_alone opens alone some,
      record {
        before = texts others;
        last = last.now;
        all = ap texts e ∙ map-append (λ x. x.now) others (last ∷ []);
        opening = opening;
        written = written;
        is = refl;
        opens = opens;
        ends = spelled;
      },
      refl,
    ),
  )
