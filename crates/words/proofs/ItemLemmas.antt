-- What is between the commas of a text.
use Rattle.std.proofs.Common.{◌≡◌, ◌≢◌, refl, ℕ, List, [], ◌∷◌, eqb, length}
use Rattle.std.specs.List.{join_with_byte, slice_split}
use Rattle.std.proofs.lemmas.List.Splits.{join_with_byte-slice_split}
use Rattle.words.specs.Items.{comma, items_of}

-- joined by commas the items are the text
pub items_joined : (text : List ℕ) → join_with_byte comma (items_of text) ≡ text
items_joined [] = refl
items_joined (c ∷ cs) = join_with_byte-slice_split comma (c ∷ cs)

-- any text but the empty one is split
pub some_items : (text : List ℕ) → length text ≢ 0 →
    slice_split (λ sign. eqb sign comma) text ≡ items_of text
some_items [] some = absurd (some refl)
some_items (_ ∷ _) some = refl
