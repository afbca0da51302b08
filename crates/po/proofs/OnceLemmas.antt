-- A text is read in one way.
use Rattle.std.proofs.Common.{◌≡◌, ℕ, true, List, [], ◌∷◌, ◌∙◌, arith, refl, inl, inr, Option, Some}
use Rattle.std.proofs.Common.{None, sym, ap}
use Rattle.po.specs.Marks.{backslash, is_plain, line_feed, quote}
use Rattle.po.specs.Strings.{BreaksString, EndsOpen, IsString, ReadsByte, StopsString, escape_at}
use Rattle.po.specs.{Steps.Leads, declared.fault.Fault.Fault, declared.fault.Problem.Problem}
use Rattle.po.specs.declared.fault.Problem.TheVariants as problems

module _ {A X : Type 0} (reads : A → X → A → Type 0) where
  -- what is read from a place, and where that ends, is told by the place
  abbrev pub IsOnly : Type 0
  IsOnly = (from : A) (x : X) (to : A) (y : X) (there : A) → reads from x to → reads from y there
      → (x ≡ y) × (to ≡ there)

  -- nothing is read from a place
  abbrev pub IsStuck : A → Type 0
  IsStuck from = (x : X) (to : A) → reads from x to → ⊥

  pub read_once : IsOnly → (from : A) (xs ys : List X) (s t : A) → Leads reads from xs s
      → Leads reads from ys t → IsStuck s → IsStuck t → (xs ≡ ys) × (s ≡ t)
  read_once only from [] [] s t e f at_s at_t = (refl, sym e ∙ f)
  read_once only from [] (y ∷ ys) s t e (next, first, more) at_s at_t =
      absurd (at_s y next (rw e at first))
  read_once only from (x ∷ xs) [] s t (next, first, more) f at_s at_t =
      absurd (at_t x next (rw f at first))
  read_once only from (x ∷ xs) (y ∷ ys) s t (next, first, more) (after, second, rest) at_s at_t =
      let same = only from x next y after first second in
      let all = read_once only next xs ys s t more (rw (← same.1) at rest) at_s at_t in
      (grind (arith, same.0, all.0), all.1)

-- the byte of an escape, and the text behind it
abbrev byte_in : Option (ℕ × List ℕ) → ℕ
byte_in None = 0
byte_in (Some escape) = escape.0

abbrev pub rest_in : Option (ℕ × List ℕ) → List ℕ
rest_in None = []
rest_in (Some escape) = escape.1

-- a byte of a string
only_byte : IsOnly ReadsByte
only_byte text b rest c other (inl (plain, e)) (inl (also, f)) = (cc, cc)
only_byte text b rest c other (inl (plain, e)) (inr (more, f, escape)) =
    let is : b ≡ backslash = cc in absurd (grind (arith, is))
only_byte text b rest c other (inr (more, e, escape)) (inl (plain, f)) =
    let is : c ≡ backslash = cc in absurd (grind (arith, is))
only_byte text b rest c other (inr (more, e, escape)) (inr (also, f, second)) =
    let same : more ≡ also = cc in
    let both : Some (b, rest) ≡ Some (c, other) = sym escape ∙ (ap escape_at same ∙ second) in
    (ap byte_in both, ap rest_in both)

-- a string does not go on at its closing quote, nor where it is broken
escape_is_no_quote : (tail more rest : List ℕ) → tail ≡ backslash ∷ more → tail ≡ quote ∷ rest → ⊥
escape_is_no_quote tail more rest is e = absurd (cc)

quote_is_special : (b : ℕ) → is_plain b ≡ true → b ≡ quote → ⊥
quote_is_special b plain same = grind (arith, same)

first_is : (b c : ℕ) (bs cs tail : List ℕ) → tail ≡ b ∷ bs → tail ≡ c ∷ cs → b ≡ c
first_is b c bs cs tail e f = cc

stuck_at_quote : (tail rest : List ℕ) → tail ≡ quote ∷ rest → IsStuck ReadsByte tail
stuck_at_quote tail rest is b to (inl (plain, e)) =
    quote_is_special b plain (first_is b quote to rest tail e is)
stuck_at_quote tail rest is b to (inr (more, e, escape)) = escape_is_no_quote tail more rest e is

pub one_string : (text value other rest tail : List ℕ) → IsString value text rest
    → IsString other text tail → (value ≡ other) × (rest ≡ tail)
one_string text value other rest tail one two =
    let all = read_once ReadsByte only_byte text value other (quote ∷ rest) (quote ∷ tail) one two
    (stuck_at_quote (quote ∷ rest) rest refl) (stuck_at_quote (quote ∷ tail) tail refl) in
    (all.0, cc)

stuck_at_end : (tail : List ℕ) → EndsOpen tail → IsStuck ReadsByte tail
stuck_at_end tail (inl none) b to (inl (plain, e)) = absurd (cc)
stuck_at_end tail (inl none) b to (inr (more, e, escape)) = absurd (cc)
stuck_at_end tail (inr (after, inl is)) b to (inl (plain, e)) =
    let same : b ≡ line_feed = cc in grind (arith, same)
stuck_at_end tail (inr (after, inl is)) b to (inr (more, e, escape)) = absurd (cc)
stuck_at_end tail (inr (after, inr is)) b to (inl (plain, e)) =
    let same : b ≡ 0 = cc in grind (arith, same)
stuck_at_end tail (inr (after, inr is)) b to (inr (more, e, escape)) = absurd (cc)

none_or_some : (x : Option (ℕ × List ℕ)) (y : ℕ × List ℕ) → x ≡ None → x ≡ Some y → ⊥
none_or_some x y e f = absurd (cc)

stuck_at_escape : (tail : List ℕ)
    → (more : List ℕ) × (tail ≡ backslash ∷ more) × (escape_at more ≡ None)
    → IsStuck ReadsByte tail
stuck_at_escape tail (after, is, none) b to (inl (plain, e)) =
    let same : b ≡ backslash = cc in grind (arith, same)
stuck_at_escape tail (after, is, none) b to (inr (more, e, escape)) =
    let same : more ≡ after = cc in
    none_or_some (escape_at more) (b, to) (ap escape_at same ∙ none) escape

stuck_where_broken : (problem : Problem) (tail : List ℕ) → StopsString problem tail
    → IsStuck ReadsByte tail
stuck_where_broken problems.Unclosed tail stops = stuck_at_end tail stops
stuck_where_broken problems.Escape tail stops = stuck_at_escape tail stops
stuck_where_broken problems.Text tail stops = absurd stops
stuck_where_broken problems.Key tail stops = absurd stops

-- a string is not broken at its closing quote
end_is_no_quote : (tail rest : List ℕ) → EndsOpen tail → tail ≡ quote ∷ rest → ⊥
end_is_no_quote tail rest (inl none) e = absurd (cc)
end_is_no_quote tail rest (inr (more, inl is)) e = absurd (cc)
end_is_no_quote tail rest (inr (more, inr is)) e = absurd (cc)

not_quote : (problem : Problem) (tail rest : List ℕ) → StopsString problem tail
    → tail ≡ quote ∷ rest → ⊥
not_quote problems.Unclosed tail rest stops e = end_is_no_quote tail rest stops e
not_quote problems.Escape tail rest stops e = escape_is_no_quote tail stops.0 rest stops.1 e
not_quote problems.Text tail rest stops e = absurd stops
not_quote problems.Key tail rest stops e = absurd stops

pub string_or_fault : (end : ℕ) (text value rest : List ℕ) (fault : Fault)
    → IsString value text rest → BreaksString end text fault → ⊥
string_or_fault end text value rest fault one broken =
    let all = read_once ReadsByte only_byte text value broken.value (quote ∷ rest) broken.tail one
    broken.read (stuck_at_quote (quote ∷ rest) rest refl)
    (stuck_where_broken fault.problem broken.tail broken.stops) in
    not_quote fault.problem broken.tail rest broken.stops (sym all.1)
