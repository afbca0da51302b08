-- A text in quotes, part by part.
use Rattle.std.proofs.Common.{◌≡◌, ℕ, List, [], ◌∷◌, ◌++◌, arith, refl, append_assoc, eqb}
use Rattle.std.proofs.lemmas.Bool.{cases_Bool}
use Rattle.records.specs.{Marks.quote, Scans.IsOpen, Spellings.doubled}

pub doubled-append : (xs ys : List ℕ) → doubled (xs ++ ys) ≡ doubled xs ++ doubled ys
doubled-append [] ys = refl
doubled-append (x ∷ xs) ys = grind (arith, cases_Bool (eqb x quote), doubled-append xs ys)

module _ (text field front after : List ℕ) (same : doubled front ≡ front) where
  -- up to the next quote
  pub to_quote : text ≡ doubled field ++ (front ++ (quote ∷ after))
      → text ≡ doubled (field ++ front) ++ (quote ∷ after)
  to_quote e = rw (doubled-append field front, same, append_assoc) e

  -- and past a quote that is doubled
  pub past_quotes : (next : List ℕ) → after ≡ quote ∷ next
      → text ≡ doubled field ++ (front ++ (quote ∷ after))
      → text ≡ doubled ((field ++ front) ++ (quote ∷ [])) ++ next
  past_quotes next two e =
      let one = to_quote e in
      rw (doubled-append (field ++ front) (quote ∷ []), append_assoc) (rw two at one)

-- no quote is left to close the text
pub never_closed : (text field rest : List ℕ) → text ≡ doubled field ++ rest
    → doubled rest ≡ rest → IsOpen text
never_closed text field rest e same = (field ++ rest, rw (doubled-append field rest, same) e)
