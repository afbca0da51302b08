-- Lines, one after the other.
use Rattle.std.proofs.Common.{◌≡◌, ℕ, ◌+◌, List, [], ◌∷◌, ◌++◌, append_assoc, map}
use Rattle.std.proofs.lemmas.List.{map-append}
use Rattle.std.specs.Borrow.{Bor}
use Rattle.catalogue.specs.Files.{Line, as_line, numbered}
use Rattle.words.specs.Items.{texts_of}
use Rattle.catalogue.specs.declared.files.Line.{Line as LentLine}

-- the lines of some texts, once the next text is a line
pub one_more_line : (file : List ℕ) (n : ℕ) (lines new : List LentLine) (item : LentLine)
    (left after given : List (Bor (List ℕ))) (text : List ℕ) (all : List Line)
    → numbered file n (texts_of left)
    ≡ record { file = file; number = n; text = text; rest = texts_of after }
    ∷ numbered file (n + 1) (texts_of after)
    → map as_line lines ++ numbered file n (texts_of left) ≡ all → new ≡ lines ++ (item ∷ [])
    → given ≡ after → as_line item
    ≡ record { file = file; number = n; text = text; rest = texts_of given }
    → map as_line new ++ numbered file (n + 1) (texts_of after) ≡ all
one_more_line file n lines new item left after given text all split so_far more same is =
    rw (
      more,
      map-append as_line lines (item ∷ []),
      is,
      same,
      append_assoc (map as_line lines) (_ ∷ []) (numbered file (n + 1) (texts_of after)),
    )
    (rw split at so_far)
