-- A text without marks is written as it is.
use Rattle.std.proofs.Common.{◌≡◌, ap, refl, arith, ℕ, ◌-◌, ◌==◌, true, false, List, [], ◌∷◌, None}
use Rattle.std.proofs.Common.{Ok, length, map}
use Rattle.std.proofs.lemmas.{Bool.and_parts, Bool.Decides.nat_tests, Str.encodes-chars}
use Rattle.std.specs.{Char.len_utf8, List.list_all, Str.IsUtf8, Str.chars}
use Rattle.folds.specs.Spellings.{is_slash, spelled, stands_alone, text_in}
use Rattle.folds.specs.declared.spelling.After.{After}
use Rattle.folds.specs.declared.spelling.After.TheVariants.{Start, Text, Slash}

no_slash : (c : ℕ) → stands_alone c ≡ true → (c == 92) ≡ false
no_slash c h = grind (arith, nat_tests, h)

no_end : (c : ℕ) → stands_alone c ≡ true → (c == 10) ≡ false
no_end c h = grind (arith, nat_tests, h)

-- each character means itself
themselves : (after : After) (begin left : ℕ) (cs : List ℕ) → is_slash after ≡ false
    → list_all stands_alone cs ≡ true
    → (map (λ (one : ℕ × ℕ). one.0)
    (spelled (record { after = after; begin = begin; left = left }) cs).meant ≡ cs)
    × ((spelled (record { after = after; begin = begin; left = left }) cs).wrong ≡ None)
themselves Slash begin left cs free all = absurd (cc)
themselves Start begin left [] free all = (refl, refl)
themselves Text begin left [] free all = (refl, refl)
themselves Start begin left (c ∷ cs) free all =
    let both = and_parts (stands_alone c) (list_all stands_alone cs) all in
    let rest = themselves Text left (left - len_utf8 c) cs refl both.1 in
    rw (no_slash c both.0, no_end c both.0) (ap (λ ds. c ∷ ds) rest.0, rest.1)
themselves Text begin left (c ∷ cs) free all =
    let both = and_parts (stands_alone c) (list_all stands_alone cs) all in
    let rest = themselves Text left (left - len_utf8 c) cs refl both.1 in
    rw (no_slash c both.0, no_end c both.0) (ap (λ ds. c ∷ ds) rest.0, rest.1)

pub as_it_is : (text : List ℕ) → IsUtf8 text → list_all stands_alone (chars text) ≡ true
    → text_in text ≡ Ok text
as_it_is text valid all =
    let n = length text in
    let each = themselves Start n n (chars text) refl all in
    rw (each.1, each.0) (ap (λ bytes. Ok bytes) (encodes-chars text valid))
