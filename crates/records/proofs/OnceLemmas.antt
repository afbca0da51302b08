-- The field at the beginning of a text is one, or there is none for one reason.
use Rattle.std.proofs.Common.{◌≡◌, ◌≢◌, ◌⊎◌, ◌∙◌, ℕ, Bool, true, false, cond, List, [], ◌∷◌, ◌++◌}
use Rattle.std.proofs.Common.{arith, refl, sym, ap, eqb, eqb-true, inl, inr, append_assoc, Option}
use Rattle.std.proofs.Common.{None, Some, Result, Ok, Err, ne_eqb, ◌||◌}
use Rattle.std.proofs.lemmas.Bool.{cases_Bool, cond_both, false≢true}
use Rattle.records.specs.Marks.{NotFirst, blank, byte_of, carriage_return, line_feed, quote}
use Rattle.records.specs.Scans.{HasField, IsStopped, problem_at}
use Rattle.records.specs.Spellings.{AreBlanks, IsPlain, doubled, ends_field, stops}
use Rattle.records.specs.{Faults.IsBroken, Faults.IsClosed, declared.fault.Problem.Problem}
use Rattle.records.specs.declared.fault.Problem.TheVariants as why
use Rattle.records.specs.declared.separator.Separator.{Separator}
use Rattle.records.specs.declared.separator.Separator.TheVariants.{Comma, Semicolon, Tab}

-- ---- a reader of one field

-- a text after its blanks
abbrev after_blanks : List ℕ → List ℕ
after_blanks [] = []
after_blanks (b ∷ bs) = cond (eqb b blank) (after_blanks bs) (b ∷ bs)

abbrev Inside : Type 0
Inside = Option (List ℕ × List ℕ)

abbrev more_inside : ℕ → Inside → Inside
more_inside b None = None
more_inside b (Some (field, rest)) = Some (b ∷ field, rest)

-- a text up to its closing quote, behind a quote or not
abbrev inside : (behind : Bool) → List ℕ → Inside
inside false [] = None
inside false (b ∷ bs) = cond (eqb b quote) (inside true bs) (more_inside b (inside false bs))
inside true [] = Some ([], [])
inside true (b ∷ bs) = cond (eqb b quote) (more_inside quote (inside false bs)) (Some ([], b ∷ bs))

-- a text up to where no field without quotes goes on, and from there on
abbrev plain_front : Separator → List ℕ → List ℕ
plain_front separator [] = []
plain_front separator (b ∷ bs) = cond (stops separator b) [] (b ∷ plain_front separator bs)

abbrev plain_rest : Separator → List ℕ → List ℕ
plain_rest separator [] = []
plain_rest separator (b ∷ bs) = cond (stops separator b) (b ∷ bs) (plain_rest separator bs)

abbrev pub Found : Type 0
Found = Result (List ℕ × List ℕ) (Problem × List ℕ)

abbrev ending : Separator → Problem → (field tail : List ℕ) → Found
ending separator other field tail =
    cond (ends_field separator tail) (Ok (field, tail)) (Err (problem_at other tail, tail))

abbrev closing : Separator → (start : List ℕ) → Inside → Found
closing separator start None = Err (why.Unclosed, start)
closing separator start (Some (field, after)) =
    ending separator why.AfterQuote field (after_blanks after)

abbrev by_first : Separator → (text start : List ℕ) → Found
by_first separator text [] =
    ending separator why.StrayQuote (plain_front separator text) (plain_rest separator text)
by_first separator text (b ∷ bs) = cond (eqb b quote)
    (closing separator (b ∷ bs) (inside false bs))
    (ending separator why.StrayQuote (plain_front separator text) (plain_rest separator text))

abbrev pub field_of : Separator → List ℕ → Found
field_of separator text = by_first separator text (after_blanks text)

-- ---- what it reads

blanks_pass : (blanks rest : List ℕ) → AreBlanks blanks
    → after_blanks (blanks ++ rest) ≡ after_blanks rest
blanks_pass [] rest are = refl
blanks_pass (b ∷ blanks) rest are = rw (are.0) (blanks_pass blanks rest are.1)

no_blanks : (rest : List ℕ) → NotFirst blank rest → after_blanks rest ≡ rest
no_blanks [] none = refl
no_blanks (b ∷ rest) none = rw (ne_eqb b blank none) refl

inside_doubled : (field after : List ℕ) → NotFirst quote after
    → inside false (doubled field ++ (quote ∷ after)) ≡ Some (field, after)
inside_doubled [] [] single = refl
inside_doubled [] (b ∷ after) single = rw (ne_eqb b quote single) refl
inside_doubled (b ∷ field) after single = elim (cases_Bool (eqb b quote)) [
  | inl is ↦
      let same : b ≡ quote = eqb-true b quote is in
      rw same (rw (inside_doubled field after single) refl)
  | inr other ↦ rw other (rw (other, inside_doubled field after single) refl)
]

inside_open : (content : List ℕ) → inside false (doubled content) ≡ None
inside_open [] = refl
inside_open (b ∷ content) = elim (cases_Bool (eqb b quote)) [
  | inl is ↦
      let same : b ≡ quote = eqb-true b quote is in rw same (rw (inside_open content) refl)
  | inr other ↦ rw other (rw (other, inside_open content) refl)
]

module _ (separator : Separator) where
  front_is : (front tail : List ℕ) → IsPlain separator front → IsStopped separator tail
      → plain_front separator (front ++ tail) ≡ front
  front_is [] [] plain stopped = refl
  front_is [] (b ∷ tail) plain stopped = rw stopped refl
  front_is (f ∷ front) tail plain stopped =
      rw (plain.0) (rw (front_is front tail plain.1 stopped) refl)

  rest_is : (front tail : List ℕ) → IsPlain separator front → IsStopped separator tail
      → plain_rest separator (front ++ tail) ≡ tail
  rest_is [] [] plain stopped = refl
  rest_is [] (b ∷ tail) plain stopped = rw stopped refl
  rest_is (f ∷ front) tail plain stopped = rw (plain.0) (rest_is front tail plain.1 stopped)

  quote_stops : stops separator quote ≡ true
  quote_stops = elim separator as (λ s. stops s quote ≡ true) [
    | Comma ↦ refl
    | Semicolon ↦ refl
    | Tab ↦ refl
  ]

  -- a byte that a tail of a field begins with is no blank and no quote
  tail_starts : (b : ℕ) (tail : List ℕ) → ends_field separator (b ∷ tail) ≡ true
      → (stops separator b ≡ true) × (b ≢ blank) × (b ≢ quote)
  tail_starts b [] ends = elim separator as (λ s. ends_field s (b ∷ []) ≡ true
      → (stops s b ≡ true) × (b ≢ blank) × (b ≢ quote)) [
        | Comma ↦ λ ends. grind (arith, eqb-true, cond_both)
        | Semicolon ↦ λ ends. grind (arith, eqb-true, cond_both)
        | Tab ↦ λ ends. grind (arith, eqb-true, cond_both)
      ] ends
  tail_starts b (c ∷ tail) ends = elim separator as (λ s. ends_field s (b ∷ c ∷ tail) ≡ true
      → (stops s b ≡ true) × (b ≢ blank) × (b ≢ quote)) [
        | Comma ↦ λ ends. grind (arith, eqb-true, cond_both)
        | Semicolon ↦ λ ends. grind (arith, eqb-true, cond_both)
        | Tab ↦ λ ends. grind (arith, eqb-true, cond_both)
      ] ends

  stopped_tail : (tail : List ℕ) → ends_field separator tail ≡ true → IsStopped separator tail
  stopped_tail [] ends = tt
  stopped_tail (b ∷ tail) ends = (tail_starts b tail ends).0

  no_blank : (tail : List ℕ) → ends_field separator tail ≡ true → NotFirst blank tail
  no_blank [] ends = tt
  no_blank (b ∷ tail) ends = (tail_starts b tail ends).1

  no_quote : (tail : List ℕ) → ends_field separator tail ≡ true → NotFirst quote tail
  no_quote [] ends = tt
  no_quote (b ∷ tail) ends = (tail_starts b tail ends).2

  -- a plain text has no quote behind its blanks, if none comes after it, or if it is not blank
  plain_start : (front tail : List ℕ) → IsPlain separator front → NotFirst blank tail
      → NotFirst quote tail ⊎ (¬ AreBlanks front) → NotFirst quote (after_blanks (front ++ tail))
  plain_start [] tail plain less (inl none) = rw (no_blanks tail less) none
  plain_start [] tail plain less (inr not) = absurd (not tt)
  plain_start (f ∷ front) tail plain less either = elim (cases_Bool (eqb f blank)) [
    | inl is ↦
        let same : f ≡ blank = eqb-true f blank is in
        rw is (plain_start front tail plain.1 less (elim either [
          | inl none ↦ inl none
          | inr not ↦ inr (λ are. not (same, are))
        ]))
    | inr other ↦ rw other (λ is_quote.
        let no = rw is_quote at (plain.0) in false≢true (sym no ∙ quote_stops))
  ]

  by_plain : (text start : List ℕ) → NotFirst quote start → by_first separator text start
      ≡ ending separator why.StrayQuote (plain_front separator text) (plain_rest separator text)
  by_plain text [] none = refl
  by_plain text (b ∷ start) none = rw (ne_eqb b quote none) refl

  plain_found : (front tail : List ℕ) → IsPlain separator front → IsStopped separator tail
      → NotFirst blank tail → NotFirst quote tail ⊎ (¬ AreBlanks front)
      → field_of separator (front ++ tail) ≡ ending separator why.StrayQuote front tail
  plain_found front tail plain stopped less either =
      by_plain (front ++ tail) (after_blanks (front ++ tail))
      (plain_start front tail plain less either)
      ∙ rw (front_is front tail plain stopped, rest_is front tail plain stopped) refl

  -- a text that begins with a quote behind its blanks
  quote_found : (blanks inner : List ℕ) → AreBlanks blanks
      → field_of separator (blanks ++ (quote ∷ inner))
      ≡ closing separator (quote ∷ inner) (inside false inner)
  quote_found blanks inner are = rw (blanks_pass blanks (quote ∷ inner) are) refl

  abbrev in_quotes : (before field after : List ℕ) → List ℕ
  in_quotes before field after = before ++ (quote ∷ (doubled field ++ (quote ∷ after)))

  quoted_found : (before field after tail : List ℕ) → AreBlanks before → AreBlanks after
      → NotFirst quote (after ++ tail) → NotFirst blank tail
      → field_of separator (in_quotes before field after ++ tail)
      ≡ ending separator why.AfterQuote field tail
  quoted_found before field after tail bs afters single whole =
      rw (
        append_assoc before (quote ∷ (doubled field ++ (quote ∷ after))) tail,
        append_assoc (doubled field) (quote ∷ after) tail,
      )
      (quote_found before (doubled field ++ (quote ∷ (after ++ tail))) bs
      ∙ rw (inside_doubled field (after ++ tail) single)
      (ap (ending separator why.AfterQuote field)
      (blanks_pass after tail afters ∙ no_blanks tail whole)))

  after_single : (after tail : List ℕ) → AreBlanks after → NotFirst quote tail
      → NotFirst quote (after ++ tail)
  after_single [] tail are none = none
  after_single (a ∷ after) tail are none = λ is. absurd (omega (arith, are.0, is))

  -- a field that begins a text is the one that is read
  pub has_found : (text field tail : List ℕ) → HasField separator text field tail
      → field_of separator text ≡ Ok (field, tail)
  has_found text field tail (written, e, inl (plain, is), ends) =
      rw (e, is) (plain_found field tail plain (stopped_tail tail ends) (no_blank tail ends)
      (inl (no_quote tail ends)) ∙ rw ends refl)
  has_found text field tail (written, e, inr q, ends) =
      rw (e, q.is) (quoted_found q.before field q.after tail q.blank_before q.blank_after
      (after_single q.after tail q.blank_after (no_quote tail ends)) (no_blank tail ends)
      ∙ rw ends refl)

  quote_ends : (more : List ℕ) → ends_field separator (quote ∷ more) ≡ false
  quote_ends [] = elim separator as (λ s. ends_field s (quote ∷ []) ≡ false) [
    | Comma ↦ refl
    | Semicolon ↦ refl
    | Tab ↦ refl
  ]
  quote_ends (b ∷ more) = elim separator as (λ s. ends_field s (quote ∷ b ∷ more) ≡ false) [
    | Comma ↦ refl
    | Semicolon ↦ refl
    | Tab ↦ refl
  ]

  return_ends : (more : List ℕ) → NotFirst line_feed more
      → ends_field separator (carriage_return ∷ more) ≡ false
  return_ends [] none = elim separator as (λ s. ends_field s (carriage_return ∷ []) ≡ false) [
    | Comma ↦ refl
    | Semicolon ↦ refl
    | Tab ↦ refl
  ]
  return_ends (b ∷ more) none = rw (ne_eqb b line_feed none)
      (elim separator as (λ s. (((eqb carriage_return (byte_of s)) || false) || false) ≡ false) [
        | Comma ↦ refl
        | Semicolon ↦ refl
        | Tab ↦ refl
      ])

  return_stops : stops separator carriage_return ≡ true
  return_stops = elim separator as (λ s. stops s carriage_return ≡ true) [
    | Comma ↦ refl
    | Semicolon ↦ refl
    | Tab ↦ refl
  ]

  other_problem : (problem : Problem) (tail : List ℕ) → NotFirst carriage_return tail
      → problem_at problem tail ≡ problem
  other_problem problem [] none = refl
  other_problem problem (b ∷ tail) none = rw (ne_eqb b carriage_return none) refl

  closed_found : (field front tail : List ℕ) → IsClosed field front tail
      → field_of separator (front ++ tail) ≡ ending separator why.AfterQuote field tail
  closed_found field front tail c = rw (c.is) (quoted_found c.before field c.after tail
      c.blank_before c.blank_after c.single c.whole)

  -- where no field begins a text, none is read, for the same reason
  pub broken_found : (problem : Problem) (front tail : List ℕ)
      → IsBroken separator problem front tail
      → field_of separator (front ++ tail) ≡ Err (problem, tail)
  broken_found why.Unclosed front tail (are, content, is) =
      rw is (quote_found front (doubled content) are ∙ rw (inside_open content) refl)
  broken_found why.StrayQuote front tail (plain, not, more, is) =
      rw is (plain_found front (quote ∷ more) plain quote_stops (λ e. absurd (omega (arith, e)))
      (inr not) ∙ rw (quote_ends more) refl)
  broken_found why.AfterQuote front tail (field, closed, ends, other) =
      closed_found field front tail closed
      ∙ rw ends (ap (λ p. Err (p, tail)) (other_problem why.AfterQuote tail other))
  broken_found why.LoneReturn front tail (inl plain, more, is, none) =
      rw is (plain_found front (carriage_return ∷ more) plain return_stops
      (λ e. absurd (omega (arith, e))) (inl (λ e. absurd (omega (arith, e))))
      ∙ rw (return_ends more none) refl)
  broken_found why.LoneReturn front tail (inr (field, closed), more, is, none) =
      closed_found field front tail closed ∙ rw is (rw (return_ends more none) refl)
