-- The field at the beginning of a text, or why there is none.
use Rattle.std.proofs.Common.{◌≡◌, ◌⊎◌, ℕ, true, false, List, [], ◌∷◌, ◌++◌, arith, refl}
use Rattle.std.proofs.Common.{append_assoc, eqb-true, inl, inr, sym, eqb, ◌∙◌, ap, get_or, drop}
use Rattle.std.proofs.lemmas.Bool.{cases_Bool, cond_both}
use Rattle.records.specs.Faults.{IsBroken, IsClosed}
use Rattle.records.specs.Marks.{NotFirst, blank, carriage_return, line_feed, quote}
use Rattle.records.specs.Scans.{HasField, IsInside, IsStopped, IsUnquoted, problem_at}
use Rattle.records.specs.Spellings.{AreBlanks, IsPlain, doubled, ends_field, stops}
use Rattle.records.specs.declared.fault.Problem.TheVariants.{AfterQuote, StrayQuote}
use Rattle.records.specs.declared.separator.Separator.{Separator}
use Rattle.records.specs.declared.separator.Separator.TheVariants.{Comma, Semicolon, Tab}

same_first : (b c : ℕ) (bs cs : List ℕ) → b ∷ bs ≡ c ∷ cs → b ≡ c
same_first b c bs cs e = ap (λ l. get_or l 0 0) e

same_rest : (b c : ℕ) (bs cs : List ℕ) → b ∷ bs ≡ c ∷ cs → bs ≡ cs
same_rest b c bs cs e = ap (drop 1) e

-- a text begins with a byte that it does not begin with
first_not : (b : ℕ) (rest more : List ℕ) → NotFirst b rest → b ∷ more ≡ rest → ⊥
first_not b [] more none e = absurd (cc)
first_not b (r ∷ rest) more none e = none (sym (same_first b r more rest e))

-- a text that begins with a quote behind its blanks
not_unquoted : (blanks front rest more : List ℕ) → AreBlanks blanks → AreBlanks front
    → NotFirst blank rest → NotFirst quote rest → front ++ (quote ∷ more) ≡ blanks ++ rest → ⊥
not_unquoted [] [] rest more are fronts blank_less quote_less e =
    first_not quote rest more quote_less e
not_unquoted [] (f ∷ front) rest more are fronts blank_less quote_less e =
    first_not blank rest (front ++ (quote ∷ more)) blank_less (rw (fronts.0) at e)
not_unquoted (b ∷ blanks) [] rest more are fronts blank_less quote_less e =
    absurd (omega (arith, are.0, same_first quote b more (blanks ++ rest) e))
not_unquoted (b ∷ blanks) (f ∷ front) rest more are fronts blank_less quote_less e =
    not_unquoted blanks front rest more are.1 fronts.1 blank_less quote_less
    (same_rest f b (front ++ (quote ∷ more)) (blanks ++ rest) e)

-- where no field ends, a carriage return has no line feed after it
ended : (separator : Separator) → ends_field separator (carriage_return ∷ line_feed ∷ []) ≡ false
    → ⊥
ended Comma e = absurd (cc)
ended Semicolon e = absurd (cc)
ended Tab e = absurd (cc)

lone : (separator : Separator) (b : ℕ) (tail : List ℕ) → b ≡ carriage_return
    → ends_field separator (b ∷ tail) ≡ false → NotFirst line_feed tail
lone separator b [] e ends = tt
lone separator b (c ∷ tail) e ends = λ is. let h = rw (e, is) at ends in ended separator h

-- a byte that stops a field without quotes where no field ends
stop_cases : (separator : Separator) (b : ℕ) (tail : List ℕ) → stops separator b ≡ true
    → ends_field separator (b ∷ tail) ≡ false → (b ≡ quote) ⊎ (b ≡ carriage_return)
stop_cases separator b [] stopped ends = grind (arith, eqb-true, cond_both)
stop_cases separator b (c ∷ tail) stopped ends = grind (arith, eqb-true, cond_both)

-- where a field without quotes does not end
pub plain_broken : (separator : Separator) (text front tail : List ℕ) → IsUnquoted text
    → text ≡ front ++ tail → IsPlain separator front → IsStopped separator tail
    → ends_field separator tail ≡ false
    → IsBroken separator (problem_at StrayQuote tail) front tail
plain_broken separator text front [] un e plain stopped ends = absurd (cc)
plain_broken separator text front (b ∷ tail) un e plain stopped ends =
    elim (stop_cases separator b tail stopped ends) [
      | inl is ↦ rw is (
        plain,
        λ blanks. not_unquoted un.0 front un.1 tail un.2 blanks un.4 un.5
            (rw is at (sym e ∙ un.3)),
        tail,
        refl,
      )
      | inr is ↦ rw is (inl plain, tail, refl, lone separator b tail is ends)
    ]

-- where a field in quotes does not end
by_tail : (separator : Separator) (field front tail : List ℕ) → ends_field separator tail ≡ false
    → IsClosed field front tail → IsBroken separator (problem_at AfterQuote tail) front tail
by_tail separator field front [] ends is = absurd (cc)
by_tail separator field front (b ∷ tail) ends is = elim (cases_Bool (eqb b carriage_return)) [
  | inl is_return ↦
      let same : b ≡ carriage_return = eqb-true b carriage_return is_return in
      rw same (inr (field, rw same at is), tail, refl, lone separator b tail same ends)
  | inr other ↦ rw other (field, is, ends, λ same. let no = rw same at other in absurd (cc))
]

-- a text that begins with a field in quotes, with blanks or none on both sides
module _ (separator : Separator) (text blanks rest inner field after more tail : List ℕ)
    (e : text ≡ blanks ++ rest) (are : AreBlanks blanks) (q : rest ≡ quote ∷ inner)
    (inside : IsInside field inner after) (m : after ≡ more ++ tail) (blank : AreBlanks more) where
  abbrev front : List ℕ
  front = blanks ++ (quote ∷ (doubled field ++ (quote ∷ more)))

  parts : text ≡ front ++ tail
  parts =
      rw (
        append_assoc blanks (quote ∷ (doubled field ++ (quote ∷ more))) tail,
        append_assoc (doubled field) (quote ∷ more) tail,
        ← m,
        ← inside.0,
        ← q,
      ) e

  pub quoted_field : ends_field separator tail ≡ true → HasField separator text field tail
  quoted_field ends = (
    front,
    parts,
    inr (record {
      before = blanks;
      after = more;
      blank_before = are;
      blank_after = blank;
      is = refl;
    }),
    ends,
  )

  closed : NotFirst 32 tail → IsClosed field front tail
  closed whole = record {
    before = blanks;
    after = more;
    blank_before = are;
    blank_after = blank;
    is = refl;
    single = rw (← m) inside.1;
    whole = whole;
  }

  pub quoted_broken : ends_field separator tail ≡ false → NotFirst 32 tail
      → (front : List ℕ) × (text ≡ front ++ tail)
      × IsBroken separator (problem_at AfterQuote tail) front tail
  quoted_broken ends whole = (front, parts, by_tail separator field front tail ends (closed whole))
