-- A string, byte by byte.
use Rattle.std.proofs.Common.{◌≡◌, ℕ, true, List, [], ◌∷◌, ◌++◌, ◌∙◌, arith, refl, inl, inr, sym}
use Rattle.std.proofs.Common.{◌⊎◌, Some, append-nil, append_assoc, eqb-true}
use Rattle.std.proofs.lemmas.Bool.{and_parts, cond_both}
use Rattle.std.specs.List.{list_all}
use Rattle.po.proofs.StepLemmas.{one_more}
use Rattle.po.specs.Marks.{IsStopped, NotFirst, backslash, is_plain, line_feed, quote}
use Rattle.po.specs.{Steps.Leads, Strings.EndsOpen, Strings.ReadsByte, Strings.escape_at}

-- bytes that stand for themselves are read, one by one
pub plain_read : (text value rest front tail new : List ℕ) → Leads ReadsByte text value rest
    → list_all is_plain front ≡ true → rest ≡ front ++ tail → new ≡ value ++ front
    → Leads ReadsByte text new tail
plain_read text value rest [] tail new so_far plain is more =
    let same : new ≡ value = more ∙ append-nil value in rw (same, ← is) so_far
plain_read text value rest (b ∷ front) tail new so_far plain is more =
    let both = and_parts (is_plain b) (list_all is_plain front) plain in
    plain_read text (value ++ (b ∷ [])) (front ++ tail) front tail new
    (one_more ReadsByte text value rest b (front ++ tail) so_far (inl (both.0, is))) both.1 refl
    (more ∙ sym (append_assoc value (b ∷ []) front))

-- an escape is read
pub escape_read : (text value tail rest new : List ℕ) (b : ℕ) → Leads ReadsByte text value tail
    → (more : List ℕ) × (tail ≡ backslash ∷ more) × (escape_at more ≡ Some (b, rest))
    → new ≡ value ++ (b ∷ []) → Leads ReadsByte text new rest
escape_read text value tail rest new b so_far escape more =
    rw more (one_more ReadsByte text value tail b rest so_far (inr escape))

-- where no byte stands for itself, and there is no quote or backslash, the string is open
pub open_end : (text : List ℕ) → IsStopped text → NotFirst quote text → NotFirst backslash text
    → EndsOpen text
open_end [] stopped no_quote no_backslash = inl refl
open_end (b ∷ bs) stopped no_quote no_backslash =
    let ends : (b ≡ line_feed) ⊎ (b ≡ 0) = grind (arith, eqb-true, cond_both) in
    inr (bs, grind (arith, ends))
