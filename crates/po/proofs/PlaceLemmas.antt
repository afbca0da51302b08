-- How wide the bytes of a string are written.
use Rattle.std.proofs.Common.{◌≡◌, ◌+◌, ◌<◌, ℕ, suc, List, [], ◌∷◌, ◌∙◌, arith, refl, inl, inr}
use Rattle.std.proofs.Common.{Option, Some, None, true, false, sym, ◌^◌, ap, drop, drop-drop}
use Rattle.std.proofs.Common.{get_or, length, length-drop, min}
use Rattle.std.proofs.{Math.Seq.drop-cons, lemmas.Bool.cond_both}
use Rattle.po.specs.Strings.{ReadsByte, control, escape_at, is_octal, octal, octal_at}
use Rattle.po.specs.{Marks.backslash, Marks.is_plain, Marks.quote, Places.width_of, Steps.Leads}
use Rattle.po.proofs.OnceLemmas.{rest_in}
use Rattle.std.specs.Option.{option_map, option_or}

-- behind a byte that stands for itself
plain_width : (b : ℕ) (rest : List ℕ) → is_plain b ≡ true → width_of (b ∷ rest) ≡ 1
plain_width b [] plain = refl
plain_width b (c ∷ rest) plain = grind (arith, plain)

-- behind an escape: a letter is no octal digit, and a code begins with one
letter_is_no_digit : (c b : ℕ) → control c ≡ Some b → is_octal c ≡ false
letter_is_no_digit c b e = grind (arith, cond_both, e)

code_is_digit : (c d f b : ℕ) → octal c d f ≡ Some b → is_octal c ≡ true
code_is_digit c d f b e = grind (arith, cond_both, e)

by_code : (c d f b : ℕ) (more rest : List ℕ) (found : Option ℕ) → octal c d f ≡ found
    → option_map {U = ℕ × List ℕ} (λ n. (n, more)) found ≡ Some (b, rest)
    → rest ≡ drop (width_of (backslash ∷ c ∷ d ∷ f ∷ more)) (backslash ∷ c ∷ d ∷ f ∷ more)
by_code c d f b more rest None is e = absurd (cc)
by_code c d f b more rest (Some n) is e =
    let digit = code_is_digit c d f n is in
    let same : rest ≡ more = sym (ap rest_in e) in rw (digit, same) refl

by_octal : (c b : ℕ) (cs rest : List ℕ) → octal_at (c ∷ cs) ≡ Some (b, rest)
    → rest ≡ drop (width_of (backslash ∷ c ∷ cs)) (backslash ∷ c ∷ cs)
by_octal c b [] rest e = absurd (cc)
by_octal c b (d ∷ []) rest e = absurd (cc)
by_octal c b (d ∷ f ∷ more) rest e = by_code c d f b more rest (octal c d f) refl e

by_letter : (c b : ℕ) (cs rest : List ℕ) (found : Option ℕ) → control c ≡ found
    → option_or (option_map {U = ℕ × List ℕ} (λ x. (x, cs)) found) (octal_at (c ∷ cs)) ≡ Some (b, rest)
    → rest ≡ drop (width_of (backslash ∷ c ∷ cs)) (backslash ∷ c ∷ cs)
by_letter c b cs rest None is e = by_octal c b cs rest e
by_letter c b cs rest (Some x) is e =
    let no_digit = letter_is_no_digit c x is in
    let same : rest ≡ cs = sym (ap rest_in e) in rw (no_digit, same) refl

escape_width : (more : List ℕ) (b : ℕ) (rest : List ℕ) → escape_at more ≡ Some (b, rest)
    → rest ≡ drop (width_of (backslash ∷ more)) (backslash ∷ more)
escape_width [] b rest e = absurd (cc)
escape_width (c ∷ cs) b rest e = by_letter c b cs rest (control c) refl e

width_is : (text : List ℕ) (b : ℕ) (rest : List ℕ) → ReadsByte text b rest
    → rest ≡ drop (width_of text) text
width_is text b rest (inl (plain, e)) =
    let one = plain_width b rest plain in rw (e, one) refl
width_is text b rest (inr (more, e, escape)) = rw e (escape_width more b rest escape)

-- a string that goes on is not at the end
some_left : (text value rest : List ℕ) → Leads ReadsByte text value (quote ∷ rest) → 0 < length text
some_left text [] rest e = rw e (omega arith)
some_left text (b ∷ value) rest (next, inl (plain, e), more) = rw e (omega arith)
some_left text (b ∷ value) rest (next, inr (behind, e, escape), more) = rw e (omega arith)

-- what is left behind a byte, of which there is some
behind_byte : (file : List ℕ) (place width : ℕ) (next : List ℕ) → next ≡ drop width (drop place file)
    → 0 < length next → place + width < length file
behind_byte file place width next is some =
    let at : next ≡ drop (place + width) file = is ∙ drop-drop width place file in
    omega (arith, ap length at, length-drop (place + width) file, some)

-- one more byte of a string is passed
pub goes_on : (file value rest : List ℕ) (place width k sum result : ℕ) → k < length value
    → Leads ReadsByte (drop place file) (drop k value) (quote ∷ rest)
    → width ≡ width_of (drop place file) → length file < 2 ^ 64
    → sum ≡ min (place + width) 18446744073709551615 → result ≡ min sum (length file)
    → Leads ReadsByte (drop result file) (drop (k + 1) value) (quote ∷ rest)
goes_on file value rest place width k sum result below reads wide fits total least =
    let here = rw (drop-cons value k 0 below) at reads in
    let is = width_is (drop place file) (get_or value k 0) here.0 here.1 in
    let next : here.0 ≡ drop width (drop place file) = rw wide is in
    let some = some_left here.0 (drop (suc k) value) rest here.2 in
    let within = behind_byte file place width here.0 next some in
    let same : result ≡ place + width = omega (arith, within, fits, total, least) in
    let count : k + 1 ≡ suc k = omega arith in
    rw (same, count, ← drop-drop width place file, ← next) here.2
