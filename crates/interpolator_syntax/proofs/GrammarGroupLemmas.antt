-- A group is what opens it, its text and what closes it, and only such a text is a group.
use Rattle.std.proofs.Common.{◌≡◌, ◌≢◌, ℕ, zero, suc, ◌+◌, cond, eqb, List, [], ◌∷◌, ◌++◌, length}
use Rattle.std.proofs.Common.{arith, refl, ap, ◌∙◌, Ok, Err, Option, Some, None, append_assoc}
use Rattle.std.proofs.Common.{ne_eqb, append-nil, eqb-true}
use Rattle.std.proofs.lemmas.Bool.{eqb-false, cond_both}
use Rattle.std.specs.Char.{len_utf8}
use Rattle.interpolator_syntax.specs.Classes.{front_of, after_of, in_class, hash, open_bracket}
use Rattle.interpolator_syntax.specs.Classes.{close_bracket}
use Rattle.interpolator_syntax.specs.Groups.{Group, after_hashes, here_or_later, close_from}
use Rattle.interpolator_syntax.specs.Groups.{closed_group, bracket_first, group_at}
use Rattle.interpolator_syntax.specs.GroupGrammar.{sign_text, open_text, close_text, NoneCloses}
use Rattle.interpolator_syntax.specs.GroupGrammar.{IsGroup, IsNoGroup, ends, no_bracket, no_end}
use Rattle.interpolator_syntax.specs.{Places.At, Places.size, Places.first_of, ListGrammar.group}
use Rattle.interpolator_syntax.specs.{Faults.Fault}
use Rattle.interpolator_syntax.specs.declared.class.Class.TheVariants.{Hash}
use Rattle.interpolator_syntax.proofs.GrammarPartLemmas.{Says, Agrees}
use Rattle.interpolator_syntax.proofs.LocalityLemmas.{size-append, stands}
use Rattle.interpolator_syntax.proofs.{FrontLemmas.front_after, CaseLemmas.none_some}

-- ---- signs

pub sign_size : (k : ℕ) → size (sign_text k) ≡ k
sign_size zero = refl
sign_size (suc k) = omega (arith, sign_size k)

pub sign_length : (k : ℕ) → length (sign_text k) ≡ k
sign_length zero = refl
sign_length (suc k) = omega (arith, sign_length k)

-- signs that are there are read
pub signs_split : (k p : ℕ) (cs : List ℕ) (q : At) → after_hashes k p cs ≡ Some q
    → (cs ≡ sign_text k ++ q.text) × (q.place ≡ p + k)
signs_split zero p cs q e = grind arith
signs_split (suc k) p [] q e = absurd (none_some e)
signs_split (suc k) p (c ∷ cs) q e =
    grind (arith, eqb-true, signs_split k (p + len_utf8 c) cs q)

-- and only those
pub only_signs : (k p : ℕ) (rest : List ℕ) → after_hashes k p (sign_text k ++ rest)
    ≡ Some (stands (p + k) rest)
only_signs zero p rest = grind arith
only_signs (suc k) p rest = grind (arith, only_signs k (p + 1) rest)

-- ---- the end

-- no bracket closes if neither the first character does nor one after it
none_closes : (k c : ℕ) (inner after : List ℕ) → ((rest : List ℕ) → c ≡ close_bracket
    → inner ++ after ≢ sign_text k ++ rest) → NoneCloses k inner after
    → NoneCloses k (c ∷ inner) after
none_closes k c inner after here later [] more rest e h = grind (arith, here rest)
none_closes k c inner after here later (d ∷ front) more rest e h = grind (arith, later front more)

later_closes : (k c : ℕ) (inner after : List ℕ) → NoneCloses k (c ∷ inner) after
    → NoneCloses k inner after
later_closes k c inner after h front more rest e = h (c ∷ front) more rest (ap (λ xs. c ∷ xs) e)

nothing_closes : (k : ℕ) (after : List ℕ) → NoneCloses k [] after
nothing_closes k after [] more rest e h = cc
nothing_closes k after (d ∷ front) more rest e h = cc

-- by whether the signs of a bracket follow c
abbrev signs_at : (k p c : ℕ) → List ℕ → Option At
signs_at k p c cs = cond (eqb c close_bracket) (after_hashes k (p + len_utf8 c) cs) None

not_here : (k p c : ℕ) (cs rest : List ℕ) → signs_at k p c cs ≡ None → c ≡ close_bracket
    → cs ≢ sign_text k ++ rest
not_here k p c cs rest e same h = grind (arith, only_signs k (p + 1) rest, e)

signs_here : (k p c : ℕ) (cs : List ℕ) (q : At) → signs_at k p c cs ≡ Some q
    → (c ∷ cs ≡ close_text k ++ q.text) × (q.place ≡ p + 1 + k)
signs_here k p c cs q e = grind (arith, eqb-true, signs_split k (p + len_utf8 c) cs q)

none_here : (k p c : ℕ) (cs : List ℕ) → ((rest : List ℕ) → c ≡ close_bracket
    → cs ≢ sign_text k ++ rest) → signs_at k p c cs ≡ None
none_here k p c cs h =
    elim (signs_at k p c cs) as (λ o. signs_at k p c cs ≡ o → o ≡ None) [
      | None ↦ λ e. refl
      | Some q ↦ λ e. grind (arith, signs_here k p c cs q e, h q.text)
    ] refl

-- the text at p ends in front of q, at the first place where it closes
pub record IsClose (k p : ℕ) (cs inner : List ℕ) (q : At) : Type 0 where
  pub split : cs ≡ inner ++ (close_text k ++ q.text)
  pub place : q.place ≡ p + size inner + 1 + k
  pub first : NoneCloses k inner (close_text k ++ q.text)

-- where a text closes, if it does
abbrev pub Closes : (k p : ℕ) → List ℕ → Option (List ℕ × At) → Type 0
Closes k p cs (Some w) = IsClose k p cs w.0 w.1
Closes k p cs None = NoneCloses k cs []

-- no bracket closes at c, and one may later
later_says :
    (k p c : ℕ) (cs : List ℕ) (o : Option (List ℕ × At)) → signs_at k p c cs ≡ None
    → Closes k (p + len_utf8 c) cs o → Closes k p (c ∷ cs) (here_or_later c None o)
later_says k p c cs o none there = grind (arith, none_closes, not_here, append-nil)

pub close_says : (k p : ℕ) (cs : List ℕ) → Closes k p cs (close_from k p cs)
close_says k p [] = nothing_closes k []
close_says k p (c ∷ cs) =
    let later = later_says k p c cs (close_from k (p + len_utf8 c) cs) in
    grind (arith, signs_here, nothing_closes k, later, close_says k (p + len_utf8 c) cs)

pub only_close :
    (k p : ℕ) (inner rest : List ℕ) → NoneCloses k inner (close_text k ++ rest)
    → close_from k p (inner ++ (close_text k ++ rest))
    ≡ Some (inner, stands (p + size inner + 1 + k) rest)
only_close k p [] rest h = grind (arith, only_signs k (p + 1) rest)
only_close k p (c ∷ inner) rest h =
    let tail = close_text k ++ rest in
    let none = none_here k p c (inner ++ tail) (λ after d. h [] inner after (cc)) in
    grind (arith, none, only_close k (p + len_utf8 c) inner rest (later_closes k c inner tail h))

pub only_no_close : (k p : ℕ) (cs : List ℕ) → NoneCloses k cs [] → close_from k p cs ≡ None
only_no_close k p [] h = refl
only_no_close k p (c ∷ cs) h =
    let none = none_here k p c cs (λ more d. rw append-nil at (h [] cs more (cc))) in
    grind (arith, none, only_no_close k (p + len_utf8 c) cs (later_closes k c cs [] h))

-- ---- groups

-- all the signs in front
all_signs : (cs : List ℕ) → front_of (in_class Hash) cs
    ≡ sign_text (length (front_of (in_class Hash) cs))
all_signs [] = refl
all_signs (c ∷ cs) = grind (arith, eqb-true, all_signs cs)

-- a text that begins with no sign
abbrev pub NoSign : List ℕ → Type 0
NoSign [] = Unit {0}
NoSign (c ∷ cs) = c ≢ hash

pub signs_front : (k : ℕ) (rest : List ℕ) → NoSign rest
    → (front_of (in_class Hash) (sign_text k ++ rest) ≡ sign_text k) × (after_of (in_class Hash)
    (sign_text k ++ rest) ≡ rest)
signs_front zero rest h = grind (arith, ne_eqb, h)
signs_front (suc k) rest h = grind (arith, signs_front k rest h)

-- the text after all the signs begins with none
after_no_sign : (cs : List ℕ) → NoSign (after_of (in_class Hash) cs)
after_no_sign [] = tt
after_no_sign (c ∷ cs) =
    grind (arith, eqb-true, after_no_sign cs)

-- a group by the signs in front and the text after them
pub group_of_signs : (start k : ℕ) (a : At) (rest : List ℕ) → a.text ≡ sign_text k ++ rest
    → NoSign rest → group_at start a ≡ bracket_first start k (stands (a.place + k) rest)
    (first_of (a.place + k) rest)
unfolding group_at
group_of_signs start k a rest e h = grind (arith, signs_front k rest h, sign_length, sign_size, e)

opened : (k : ℕ) (rest : List ℕ) → open_text k ++ rest ≡ sign_text k ++ (open_bracket ∷ rest)
opened k rest = append_assoc (sign_text k) (open_bracket ∷ []) rest

open_size : (k : ℕ) → size (open_text k) ≡ k + 1
open_size k = omega (arith, size-append (sign_text k) (open_bracket ∷ []), sign_size k)

pub close_size : (inner : List ℕ) (k : ℕ) → size (inner ++ close_text k) ≡ size inner + 1 + k
close_size inner k = omega (arith, size-append inner (close_text k), sign_size k)

only_group : (start : ℕ) (a : At) (g : Group) (q : At) → IsGroup a g q → group_at start a
    ≡ Ok (g, q)
only_group start a g q h =
    let tail = g.text ++ (close_text h.k ++ q.text) in
    let signs = group_of_signs start h.k a (open_bracket ∷ tail) in
    let close = only_close h.k (a.place + h.k + 1) g.text q.text h.first in
    grind (arith, signs, close, opened h.k tail, open_size h.k, close_size g.text h.k, h)

module _ (start k : ℕ) (a : At) where
  -- what a bracket opens, by where it closes
  opened_says :
      (p : ℕ) (cs : List ℕ) (o : Option (List ℕ × At)) → p ≡ a.place + k + 1
      → a.text ≡ open_text k ++ cs → Closes k p cs o → Says (group start) a (closed_group start p o)
  opened_says p cs None e split none = no_end k cs split none refl
  opened_says p cs (Some w) e split close = grind (arith, open_size, close_size)

  -- the text after the signs
  bracket_says :
      (rest : List ℕ) → a.text ≡ sign_text k ++ rest → NoSign rest
      → Says (group start) a
      (bracket_first start k (stands (a.place + k) rest) (first_of (a.place + k) rest))
  bracket_says [] e bare = ends k (e ∙ append-nil (sign_text k)) refl
  bracket_says (c ∷ cs) e bare =
      cond_both (eqb c open_bracket) _ _ (Says (group start) a)
      (λ t.
      let first = eqb-true c open_bracket t in
      let split : a.text ≡ open_text k ++ cs = grind (arith, opened k cs) in
      opened_says (a.place + k + len_utf8 c) cs _ (rw first refl) split (close_says k _ cs))
      (λ t. no_bracket k c cs e bare (eqb-false c open_bracket t) (rw (sign_size k) refl))

only_no_group : (start : ℕ) (a : At) (f : Fault) → IsNoGroup start a f → group_at start a
    ≡ Err f
only_no_group start a f (ends k e d) = grind (arith, group_of_signs start k a [], append-nil, d)
only_no_group start a f (no_bracket k c rest e bare other d) =
    grind (arith, group_of_signs start k a (c ∷ rest) e bare, ne_eqb, other, d, sign_size k)
only_no_group start a f (no_end k inner e none d) =
    let signs = group_of_signs start k a (open_bracket ∷ inner) in
    grind (arith, signs, opened k inner, only_no_close k (a.place + k + 1) inner none, d)

pub agrees_group : (start : ℕ) → Agrees (group_at start) (group start)
agrees_group start = record {
  says = λ a.
      let k = length (front_of (in_class Hash) a.text) in
      let rest = after_of (in_class Hash) a.text in
      let split : a.text ≡ sign_text k ++ rest = grind (arith, all_signs, front_after) in
      let bare = after_no_sign a.text in
      rw (group_of_signs start k a rest split bare) (bracket_says start k a rest split bare);
  only = λ a q g. only_group start a g q;
  only_not = only_no_group start;
}

-- no two groups begin at one place
pub one_group : (a q r : At) (g h : Group) → IsGroup a g q → IsGroup a h r → (g ≡ h) × (q ≡ r)
one_group a q r g h is other = grind (arith, only_group 0 a g q is, only_group 0 a h r other)
