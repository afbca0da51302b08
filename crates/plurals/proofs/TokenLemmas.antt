-- The tokens of a rule.
use Rattle.std.proofs.Common.{◌≡◌, ◌⊎◌, ◌==◌, ℕ, ◌+◌, ◌<◌, suc, Bool, true, not, List, [], ◌∷◌}
use Rattle.std.proofs.Common.{length, get_or, arith, refl, inl, rules, unwrap_or, ap, sym, ◌∙◌}
use Rattle.std.proofs.Common.{◌++◌, Result, Ok, Err, None, append_assoc, zero, append-nil}
use Rattle.std.proofs.Common.{IsCharBoundary, IsUtf8, Some, position, eqb-true, slice_get}
use Rattle.std.proofs.lemmas.Str.Parse.{IsNumeralModel, numerals_by_value, parse_digits}
use Rattle.std.proofs.{lemmas.Bool.and_parts, lemmas.Bool.cond_both, lemmas.Bool.Decides.nat_tests}
use Rattle.std.proofs.{lemmas.List.Sums.prefix_len-le-length, lemmas.Str.IsCharBoundary-after_ascii}
use Rattle.std.specs.{Str.trim_start, Char.is_ascii_digit, List.list_all, List.position_or_len}
use Rattle.std.specs.{Result.result_ok, Str.Parse.ParsesUnsigned, Str.Parse.digits_value}
use Rattle.plurals.specs.declared.fault.Fault.{Fault}
use Rattle.plurals.specs.Tokens.{Spot, ◌>>=◌, ends_run, is_numeral, next_at, number_in, end_of}
use Rattle.plurals.specs.Tokens.{limit, words_from, words_of}

pub first_or_all : (test : ℕ → Bool) (bs : List ℕ)
    → unwrap_or (position test bs) (length bs) ≡ position_or_len test bs
first_or_all test bs = grind (arith, prefix_len-le-length)

-- a byte that ends a run is a character
low : (b : ℕ) → ends_run b ≡ true → b < 128
low b h = grind (arith, eqb-true, cond_both)

one_more : (n : ℕ) → 1 + n ≡ suc n
one_more n = omega arith

-- the cut is at the end, or before a character below 128
abbrev Cuts : ℕ → List ℕ → Type 0
Cuts n bs = (n ≡ length bs) ⊎ ((n < length bs) × (get_or bs n 0 < 128))

cuts : (bs : List ℕ) → Cuts (position_or_len ends_run bs) bs
cuts [] = inl refl
cuts (b ∷ bs) = grind (arith, cond_both, one_more, low, cuts bs)

pub run_boundary : (bs : List ℕ) → IsCharBoundary bs (position_or_len ends_run bs)
run_boundary bs = grind (arith, cuts)

-- texts of digits, and what they write
digits : IsNumeralModel (λ text. list_all is_ascii_digit text ≡ true) (digits_value 10)
digits = numerals_by_value _ (search rules)

-- the number that is parsed of a numeral
pub number_parsed : {E : Type 0} (text : List ℕ) (r : Result ℕ E) → is_numeral text ≡ true
    → ParsesUnsigned 64 10 text r → result_ok r ≡ number_in text
number_parsed {E = E} text r is parsed =
    let all = (and_parts (not (length text == 0)) (list_all is_ascii_digit text) is).1 in
    grind (arith, nat_tests, is, parse_digits digits {E = E} 64 text r parsed all)

-- after characters below 128 a text can be cut
pub boundary_after : (bs : List ℕ) (b : ℕ) → slice_get bs 0 ≡ Some b → b < 128 → IsUtf8 bs
    → IsCharBoundary bs 1
boundary_after [] b e low u = absurd (cc)
boundary_after (x ∷ xs) b e low u =
    let same : x ≡ b = cc in IsCharBoundary-after_ascii (x ∷ xs) 0 u (omega arith) (omega arith)

-- words, and others after them
abbrev pub with_front : List Spot → Result (List Spot) Fault → Result (List Spot) Fault
with_front front read = read >>= λ spots. Ok (front ++ spots)

joined : (front : List Spot) (spot : Spot) (read : Result (List Spot) Fault)
    → with_front front (read >>= λ spots. Ok (spot ∷ spots)) ≡ with_front (front ++ (spot ∷ [])) read
joined front spot (Ok spots) = grind (arith, append_assoc)
joined front spot (Err fault) = refl

with_none : (read : Result (List Spot) Fault) → with_front [] read ≡ read
with_none (Ok spots) = refl
with_none (Err fault) = refl

limit_is : limit ≡ 1000
unfolding limit
limit_is = refl

-- the words of a rule, before any is read
pub no_words_yet : (rule : List ℕ) (left : ℕ) → left + 0 ≡ 1000
    → with_front [] (words_from left (length rule) rule) ≡ words_of rule
no_words_yet rule left e =
    let all : left ≡ limit = omega (arith, limit_is) in
    rw all (with_none (words_from limit (length rule) rule))

module _ (front : List Spot) (end : ℕ) (text : List ℕ) (all : Result (List Spot) Fault) where
  -- once one more word is read
  pub one_more_word : (left : ℕ) (rest : List ℕ) (spot : Spot) (new : List Spot)
      → with_front front (words_from (suc left) end text) ≡ all
      → Ok (Some (spot, rest)) ≡ next_at end (trim_start text) → new ≡ front ++ (spot ∷ [])
      → with_front new (words_from left end rest) ≡ all
  one_more_word left rest spot new so_far next more =
      rw more (sym (joined front spot (words_from left end rest)) ∙ (rw (← next) at so_far))

  -- if no word is left
  pub no_more_words : (n : ℕ) → with_front front (words_from n end text) ≡ all
      → Ok None ≡ next_at end (trim_start text) → all ≡ Ok front
  no_more_words zero so_far next = sym (rw (← next) at so_far) ∙ ap Ok (append-nil front)
  no_more_words (suc left) so_far next = sym (rw (← next) at so_far) ∙ ap Ok (append-nil front)

  -- if what is left begins with none
  pub broken_word : (n : ℕ) (fault : Fault) → with_front front (words_from n end text) ≡ all
      → Err fault ≡ next_at end (trim_start text) → all ≡ Err fault
  broken_word zero fault so_far next = sym (rw (← next) at so_far)
  broken_word (suc left) fault so_far next = sym (rw (← next) at so_far)

  -- after as many as there may be
  pub last_words : (n : ℕ) (last : Result (List Spot) Fault)
      → with_front front (words_from n end text) ≡ all → n ≡ 0
      → last ≡ end_of (next_at end (trim_start text)) → all ≡ with_front front last
  last_words n last so_far none next = sym (rw (none, ← next) at so_far)
