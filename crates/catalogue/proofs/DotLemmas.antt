-- A text is split at the last of an ASCII character, as std says of file names.
use Rattle.std.proofs.Common.{◌≡◌, ◌∙◌, ap, arith, refl, sym, ℕ, zero, suc, ◌+◌, ◌-◌, ◌≤◌, ◌<◌}
use Rattle.std.proofs.Common.{List, Option, None, Some, MatchOption, drop, get_or, length, take}
use Rattle.std.proofs.Common.{⊎_elim, length-drop, get_or-drop}
use Rattle.std.proofs.lemmas.{Bool.cases_eq, Str.len_utf8_ascii, Str.Pattern.NoCharPasses-char}
use Rattle.std.specs.Path.{rfind_below, rsplit_once}
use Rattle.std.specs.{Borrow.Bor, Option.option_map, Str.Pattern.RFindsChar}

-- no byte below n is c
none_below : (c : ℕ) (text : List ℕ) (n : ℕ)
    → ((i : ℕ) → i < n → get_or text i 0 ≡ c → ⊥) → rfind_below c text n ≡ None
none_below c text zero none = refl
none_below c text (suc n) none = grind (
  arith,
  none n (omega arith),
  none_below c text n (λ i l. none i (omega arith)),
)

-- the byte k is the last below n that is c
last_below : (c : ℕ) (text : List ℕ) (k n : ℕ) → k < n → get_or text k 0 ≡ c
    → ((i : ℕ) → k < i → i < n → get_or text i 0 ≡ c → ⊥) → rfind_below c text n ≡ Some k
last_below c text k zero within at later = absurd (omega arith)
last_below c text k (suc n) within at later = ⊎_elim
    (λ e. grind (arith, e, at))
    (λ other. grind (
      arith,
      later n (omega arith) (omega arith),
      last_below c text k n (omega arith) at (λ i a b. later i a (omega arith)),
    ))
    (cases_eq k n)

-- what `rsplit_once` gives at an ASCII character
pub split_at_last : (c : ℕ) (text : List ℕ) (r : Option (Bor (List ℕ) × Bor (List ℕ)))
    → MatchOption r (RFindsChar c text None) (λ x. (i : ℕ) × (j : ℕ)
    × RFindsChar c text (Some (i, j)) × (x.0.now ≡ take i text) × (x.1.now ≡ drop j text)
    × (i ≤ j) × (length x.0.now ≡ i) × (length x.1.now + j ≡ length text)) → c < 128
    → option_map (λ x. (x.0.now, x.1.now)) r ≡ rsplit_once c text
unfolding rsplit_once
split_at_last c text None found low =
    sym (ap (option_map (λ i. (take i text, drop (i + 1) text)))
    (none_below c text (length text) (λ i. NoCharPasses-char c text i found low)))
split_at_last c text (Some x) found low =
    let i = found.0 in
    let j = found.1 in
    let next : j ≡ i + 1 = omega (arith, found.2.1.ends, len_utf8_ascii c low) in
    let later : (k : ℕ) → i < k → k < length text → get_or text k 0 ≡ c → ⊥ = λ k a l e.
    let back : j + (k - j) ≡ k = omega arith in
    NoCharPasses-char c (drop j text) (k - j) found.2.0 low
    (omega (arith, length-drop j text))
    (get_or-drop j text (k - j) 0 ∙ ap (λ n. get_or text n 0) back ∙ e) in
    let last = last_below c text i (length text) (omega (arith, found.7)) (found.2.1.byte low)
    later in
    let second = found.4 ∙ ap (λ n. drop n text) next in
    (λ t. Some (found.3 t, second t))
    ∙ sym (ap (option_map (λ k. (take k text, drop (k + 1) text))) last)
