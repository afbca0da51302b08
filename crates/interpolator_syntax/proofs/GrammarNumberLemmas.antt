-- A number is its digits, and the reverse; and why a text is none.
use Rattle.std.proofs.Common.{rules, ◌≡◌, ℕ, ◌+◌, ◌*◌, ◌^◌, ◌<◌, ◌≤◌, true, false, eqb, IsTrue}
use Rattle.std.proofs.Common.{List, [], ◌∷◌, ◌++◌, length, arith, refl, ◌≢◌, subst, Result, Ok, Err}
use Rattle.std.proofs.Common.{inl, inr, eqb-true, append-nil, append_assoc, ℤ, pos, length-append}
use Rattle.std.proofs.Common.{pow-suc, le-mul_of_pos_right}
use Rattle.std.proofs.lemmas.Bool.{eqb-false, cond_both}
use Rattle.std.proofs.lemmas.List.Elements.{All-nil, All-cons, All-head, All-tail, All-append}
use Rattle.std.proofs.{lemmas.Grind.common_steps, Math.Nat.one-le-pow}
use Rattle.std.specs.Char.{is_ascii_digit}
use Rattle.interpolator_syntax.specs.Numbers.{with_digit, digits_after, natural, with_sign}
use Rattle.interpolator_syntax.specs.Numbers.{negation, negative, integer}
use Rattle.interpolator_syntax.specs.NumberGrammar.{decimal_value, AreDigits, IsNumber, IsStopped}
use Rattle.interpolator_syntax.specs.NumberGrammar.{IsStop, IsNoNumber, IsSigned, Spelling}
use Rattle.interpolator_syntax.specs.NumberGrammar.{naturals, integers}
use Rattle.interpolator_syntax.specs.declared.error.NumberError.TheVariants.{Empty, PosOverflow}
use Rattle.interpolator_syntax.specs.declared.error.NumberError.TheVariants.{NegOverflow}
use Rattle.interpolator_syntax.specs.{Classes.minus, declared.error.NumberError.NumberError}

abbrev Digit : ℕ → Type 0
Digit c = IsTrue (is_ascii_digit c)

-- ---- the value of digits after those of a number

value_from : ℕ → List ℕ → ℕ
value_from n cs = n * 10 ^ length cs + decimal_value cs

value_none : (n : ℕ) → value_from n [] ≡ n
unfolding value_from
value_none n = omega arith

value_whole : (cs : List ℕ) → value_from 0 cs ≡ decimal_value cs
unfolding value_from
value_whole cs = omega arith

carried : (n d p q v : ℕ) → q ≡ p * 10 → n * q + (d * p + v) ≡ (n * 10 + d) * p + v
carried n d p q v e = rw e (omega arith)

value_digit : (n c : ℕ) (cs : List ℕ) → value_from n (c ∷ cs) ≡ value_from (with_digit n c) cs
unfolding value_from
value_digit n c cs = search (rules, carried, pow-suc)

value_least : (n : ℕ) (cs : List ℕ) → n ≤ value_from n cs
unfolding value_from
value_least n cs = grind (arith, one-le-pow, le-mul_of_pos_right)

-- digits after digits
value_over : (n : ℕ) (cs ds : List ℕ) → value_from n (cs ++ ds) ≡ value_from (value_from n cs) ds
value_over n [] ds = grind (arith, value_none)
value_over n (c ∷ cs) ds = grind (arith, value_digit, value_over (with_digit n c) cs ds)

value_last : (cs : List ℕ) (c : ℕ)
    → decimal_value (cs ++ (c ∷ [])) ≡ with_digit (decimal_value cs) c
value_last cs c = grind (arith, value_whole, value_over 0 cs (c ∷ []), value_digit, value_none)

-- ---- digits after those of a number

module _ (limit : ℕ) (overflow : NumberError) where
  abbrev read_from : ℕ → List ℕ → Result ℕ NumberError
  read_from n cs = digits_after limit overflow n cs

  -- what the digits of a text yield
  abbrev Spelled : List ℕ → Result ℕ NumberError → Type 0
  Spelled text (Ok n) = AreDigits text × (n ≡ decimal_value text) × (n < limit)
  Spelled text (Err kind) = IsStopped limit overflow text kind

  -- after digits of a value below the limit
  spelled_after : (front cs : List ℕ) → AreDigits front → decimal_value front < limit
      → Spelled (front ++ cs) (read_from (decimal_value front) cs)
  spelled_after front [] d h = grind (arith, append-nil)
  spelled_after front (c ∷ cs) d h =
      let digits = All-append Digit front (c ∷ []) d in
      let more = spelled_after (front ++ (c ∷ [])) cs in
      grind (arith, at_once, digits, All-cons, All-nil, append_assoc front, value_last front, more)
    where
      at_once : {kind : NumberError} → IsStop limit overflow front c kind
          → IsStopped limit overflow (front ++ (c ∷ cs)) kind
      at_once k =
          record { front = front; c = c; rest = cs; split = refl; digits = d; below = h; stop = k }

  -- a number, or why the text is none
  abbrev Says : List ℕ → Result ℕ NumberError → Type 0
  Says text (Ok n) = IsNumber limit text n
  Says text (Err kind) = IsNoNumber limit overflow text kind

  says : (c : ℕ) (cs : List ℕ) → 0 < limit → Says (c ∷ cs) (read_from 0 (c ∷ cs))
  says c cs h = let s = spelled_after [] (c ∷ cs) (All-nil Digit) h in grind (arith, s)

  -- digits of a value below the limit are read, and the text after them goes on from that value
  read_over : (n : ℕ) (cs rest : List ℕ) → AreDigits cs → value_from n cs < limit
      → read_from n (cs ++ rest) ≡ read_from (value_from n cs) rest
  read_over n [] rest d h = grind (arith, value_none)
  read_over n (c ∷ cs) rest d h =
      let least = value_least (with_digit n c) cs in
      let more = read_over (with_digit n c) cs rest (All-tail Digit c cs d) in
      grind (arith, value_digit n c cs, least, All-head Digit c cs d, more)

  whole_read : (cs rest : List ℕ) → AreDigits cs → decimal_value cs < limit
      → read_from 0 (cs ++ rest) ≡ read_from (decimal_value cs) rest
  whole_read cs rest d h = grind (arith, read_over, value_whole)

  only : (c : ℕ) (cs : List ℕ) (o : Result ℕ NumberError) → Says (c ∷ cs) o
      → read_from 0 (c ∷ cs) ≡ o
  only c cs (Ok n) h = grind (arith, append-nil, whole_read (c ∷ cs) [] h.digits)
  only c cs (Err kind) (inl k) = cc
  only c cs (Err kind) (inr s) =
      let read = whole_read s.front (s.c ∷ s.rest) s.digits s.below in
      grind (arith, s.split, read, value_last s.front s.c)

none_empty :
    (limit : ℕ) (overflow kind : NumberError) → IsNoNumber limit overflow [] kind → kind ≡ Empty
none_empty limit overflow kind h1 = grind (arith, common_steps, length-append)

-- ---- what is read from a text, and what the text spells

-- what is read is what the text spells, or why it spells none
abbrev pub Tells : {A : Type 0} → Spelling A → List ℕ → Result A NumberError → Type 0
Tells spelling text (Ok n) = spelling.spells text n
Tells spelling text (Err kind) = spelling.spells_none text kind

pub record Decides {A : Type 0} (read : List ℕ → Result A NumberError) (spelling : Spelling A)
    : Type 0 where
  pub says : (text : List ℕ) → Tells spelling text (read text)
  pub only : (text : List ℕ) (o : Result A NumberError) → Tells spelling text o → read text ≡ o

pub decides_is :
    {A : Type 0} {read : List ℕ → Result A NumberError} {spelling : Spelling A}
    → Decides read spelling → (text : List ℕ) (o : Result A NumberError) → read text ≡ o
    → Tells spelling text o
decides_is {spelling = spelling} h text o e = subst (Tells spelling text) e (h.says text)

-- ---- a number without a sign

only_natural : (text : List ℕ) (o : Result ℕ NumberError) → Tells naturals text o
    → natural text ≡ o
only_natural [] (Ok n) h = absurd (h.not_empty refl)
only_natural [] (Err kind) h = grind (arith, none_empty (2 ^ 64) PosOverflow kind h)
only_natural (c ∷ cs) o h = grind (arith, only (2 ^ 64) PosOverflow c cs o)

pub naturals_decide : Decides natural naturals
naturals_decide = grind (arith, says, only_natural)

-- ---- an integer

sign_first : (c d : ℕ) (ds : List ℕ) → eqb c minus ≡ true → IsSigned (c ∷ d ∷ ds) (d ∷ ds)
sign_first c d ds t = grind (arith, eqb-true)

negative_says : (c : ℕ) (cs : List ℕ) → eqb c minus ≡ true → Tells integers (c ∷ cs) (negative cs)
negative_says c [] t = grind (arith, eqb-true, says (2 ^ 63) PosOverflow c [])
negative_says c (d ∷ ds) t = grind (arith, sign_first c d ds t, says (2 ^ 63 + 1) NegOverflow d ds)

positive_says : (c : ℕ) (cs : List ℕ) (r : Result ℕ NumberError) → eqb c minus ≡ false
    → Says (2 ^ 63) PosOverflow (c ∷ cs) r → Tells integers (c ∷ cs) (with_sign pos r)
positive_says c cs r t h = grind (arith, eqb-false)

integer_says : (text : List ℕ) → Tells integers text (integer text)
integer_says text = search (rules, cond_both, negative_says, positive_says, says)

only_positive : (text : List ℕ) (n : ℕ) → IsNumber (2 ^ 63) text n → integer text ≡ Ok (pos n)
only_positive [] n h = absurd (h.not_empty refl)
only_positive (c ∷ cs) n h =
    let digit = All-head Digit c cs h.digits in
    grind (arith, eqb-true, digit, only (2 ^ 63) PosOverflow c cs (Ok n) h)

only_negative : (after : List ℕ) (o : Result ℕ NumberError) → after ≢ []
    → Says (2 ^ 63 + 1) NegOverflow after o → negative after ≡ with_sign negation o
only_negative after o some h = grind (arith, only)

-- if a text without a sign begins with `-`, the `-` is all of it
only_lone :
    (c : ℕ) (cs : List ℕ) (kind : NumberError) → eqb c minus ≡ true
    → ((after : List ℕ) → IsSigned (c ∷ cs) after → ⊥)
    → digits_after (2 ^ 63) PosOverflow 0 (c ∷ cs) ≡ Err kind → negative cs ≡ Err kind
only_lone c cs kind t unsigned e = grind (arith, eqb-true, sign_first, unsigned cs)

only_unsigned :
    (text : List ℕ) (kind : NumberError) → ((after : List ℕ) → IsSigned text after → ⊥)
    → IsNoNumber (2 ^ 63) PosOverflow text kind → integer text ≡ Err kind
only_unsigned [] kind unsigned h = grind (arith, none_empty (2 ^ 63) PosOverflow kind h)
only_unsigned (c ∷ cs) kind unsigned h =
    grind (arith, only (2 ^ 63) PosOverflow c cs (Err kind) h, only_lone c cs kind)

only_integer : (text : List ℕ) (o : Result ℤ NumberError) → Tells integers text o
    → integer text ≡ o
only_integer text (Ok z) (inl k) = rw k.2 (only_positive text k.0 k.1)
only_integer text (Ok z) (inr k) =
    rw (k.2.split, k.4) (only_negative k.0 (Ok k.1) k.2.not_empty k.3)
only_integer text (Err kind) (inl k) = only_unsigned text kind k.0 k.1
only_integer text (Err kind) (inr k) =
    rw k.1.split (only_negative k.0 (Err kind) k.1.not_empty k.2)

pub integers_decide : Decides integer integers
integers_decide = grind (arith, says, integer_says, only_integer)
