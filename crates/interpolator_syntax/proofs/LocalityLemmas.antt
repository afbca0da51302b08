-- Fronts of a text, and the text after them.
use Rattle.std.proofs.Common.{◌≡◌, ℕ, ◌+◌, ◌≤◌, Bool, List, [], ◌∷◌, ◌++◌, length, arith, refl, ap}
use Rattle.std.proofs.Common.{sym, subst, inr, ◌⊎◌, append_assoc, length-append}
use Rattle.std.specs.Char.{len_utf8}
use Rattle.interpolator_syntax.specs.{Places.At, Places.size, Places.after, Classes.close_brace}
use Rattle.interpolator_syntax.proofs.FrontLemmas.{front_after}

-- ---- what is taken

pub size-append : (xs ys : List ℕ) → size (xs ++ ys) ≡ size xs + size ys
size-append [] ys = omega arith
size-append (c ∷ cs) ys = omega (arith, size-append cs ys)

-- q comes after a front of the text at a, at its place
pub record Takes (a q : At) : Type 0 where
  pub front : List ℕ
  pub split : a.text ≡ front ++ q.text
  pub place : q.place ≡ a.place + size front

-- a text at a place
abbrev pub stands : ℕ → List ℕ → At
stands p cs = record { place = p; text = cs }

pub takes_none : (a : At) → Takes a a
takes_none a = record { front = []; split = refl; place = omega arith }

-- one character
pub takes_one : (p c : ℕ) (cs : List ℕ) → Takes (stands p (c ∷ cs)) (stands (p + len_utf8 c) cs)
takes_one p c cs = record { front = c ∷ []; split = refl; place = omega arith }

-- one front after the other
pub takes_then : (a b c : At) → Takes a b → Takes b c → Takes a c
takes_then a b c h k = grind (arith, append_assoc, size-append h.front k.front)

-- the longest front of characters that pass
pub takes_after : (passes : ℕ → Bool) (a : At) → Takes a (after passes a)
takes_after passes a = grind (arith, front_after)

-- the text after a front is no longer
pub takes_shorter : (a q : At) → Takes a q → length q.text ≤ length a.text
takes_shorter a q h = omega (arith, ap length h.split, length-append h.front q.text)

-- and ends where the text ends
pub takes_reaches :
    (n : ℕ) (a q : At) → Takes a q → a.place + size a.text ≡ n → q.place + size q.text ≡ n
takes_reaches n a q h e = grind (arith, size-append)

-- there is a closing brace somewhere
abbrev pub Guarded : List ℕ → Type 0
Guarded [] = ⊥
Guarded (c ∷ cs) = (c ≡ close_brace) ⊎ Guarded cs

guarded_after : (front cs : List ℕ) → Guarded cs → Guarded (front ++ cs)
guarded_after [] cs h = h
guarded_after (c ∷ front) cs h = inr (guarded_after front cs h)

-- a closing brace after a front is in the text
pub takes_guards : (a q : At) → Takes a q → Guarded q.text → Guarded a.text
takes_guards a q h guard = subst Guarded (sym h.split) (guarded_after h.front q.text guard)

-- a text at its place, with more after it
abbrev pub with_more : At → List ℕ → At
with_more a more = record { place = a.place; text = a.text ++ more }
