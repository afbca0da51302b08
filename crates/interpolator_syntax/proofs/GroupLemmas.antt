-- Where a group closes.
use Rattle.std.proofs.Common.{◌≡◌, ℕ, zero, suc, ◌+◌, ◌-◌, ◌<◌, ◌≤◌, List, [], ◌∷◌, ◌++◌, length}
use Rattle.std.proofs.Common.{take, arith, refl, ◌∙◌, Option, Some, None, append_assoc, append-nil}
use Rattle.std.proofs.Common.{length-append, eqb-true, chars, IsUtf8}
use Rattle.std.proofs.lemmas.List.{append_cancel_right}
use Rattle.std.proofs.lemmas.Str.{encodes-chars, encodes-append, IsUtf8-take, chars-append}
use Rattle.std.specs.Char.{len_utf8}
use Rattle.interpolator_syntax.specs.Places.{At, size, strip_of, after}
use Rattle.interpolator_syntax.specs.Classes.{front_of, after_of, in_class, hash, close_bracket}
use Rattle.interpolator_syntax.specs.Groups.{Reached, ReachesNext, after_front, after_hashes}
use Rattle.interpolator_syntax.specs.Groups.{close_from, here_or_later, next_close}
use Rattle.interpolator_syntax.specs.declared.class.Class.TheVariants.{Hash, Enclosed}
use Rattle.interpolator_syntax.specs.Grammar.{IsLongest}
use Rattle.interpolator_syntax.proofs.FrontLemmas.{IsRest, front_after, rest_boundary, cut_at_rest}
use Rattle.interpolator_syntax.proofs.CaseLemmas.{none_some, some_same}
use Rattle.interpolator_syntax.proofs.{CharacterLemmas.size-chars, LongestLemmas.front_longest}

-- ---- signs

-- after a sign, one sign fewer has to follow
pub signs_next : (k p : ℕ) (cs : List ℕ) (q : At) → strip_of hash p cs ≡ Some q
    → after_hashes (suc k) p cs ≡ after_hashes k q.place q.text
signs_next k p cs q e = grind (arith, none_some)

pub one_less : (n i : ℕ) → i < n → n - i ≡ suc (n - (i + 1))
one_less n i h = omega arith

-- a sign is one byte
pub signs_size : (cs : List ℕ) → size (front_of (in_class Hash) cs)
    ≡ length (front_of (in_class Hash) cs)
signs_size [] = refl
signs_size (c ∷ cs) = grind (arith, eqb-true, signs_size cs)

-- so the signs have as many bytes as there are signs
pub signs_bytes : (bs cs : List ℕ) → IsUtf8 bs → chars bs ≡ front_of (in_class Hash) cs → length bs
    ≡ length (front_of (in_class Hash) cs)
signs_bytes bs cs u e = grind (arith, size-chars, signs_size)

-- if too few bytes come before a bracket, there are too few signs
pub few_signs : (k p : ℕ) (cs : List ℕ) → size (front_of (in_class Enclosed) cs) < k
    → after_hashes k p cs ≡ None
few_signs zero p cs h = absurd (omega (arith, h))
few_signs (suc k) p [] h = refl
few_signs (suc k) p (c ∷ cs) h = grind (arith, eqb-true, few_signs k (p + len_utf8 c) cs)

-- ---- the closing bracket

one_more : (front : List ℕ) (c : ℕ) (o : Option (List ℕ × At))
    → after_front front (here_or_later c None o) ≡ after_front (front ++ (c ∷ [])) o
one_more front c o = grind (arith, append_assoc)

front_then : (xs ys : List ℕ) (o : Option (List ℕ × At)) → after_front xs (after_front ys o)
    ≡ after_front (xs ++ ys) o
front_then xs ys o = grind (arith, append_assoc)

abbrev enclosed : List ℕ → List ℕ
enclosed cs = front_of (in_class Enclosed) cs

-- a text whose front has no bracket closes where the text after that front does
pub close_past : (k p : ℕ) (cs : List ℕ) → close_from k p cs
    ≡ after_front (enclosed cs) (close_from k (p + size (enclosed cs))
    (after_of (in_class Enclosed) cs))
close_past k p [] = refl
close_past k p (c ∷ cs) = grind (arith, append_assoc, close_past k (p + len_utf8 c) cs)

-- if there is no bracket, nothing closes
none_after : (k p q : ℕ) (cs rest : List ℕ) → IsLongest (in_class Enclosed) cs (enclosed cs) rest
    → strip_of close_bracket q rest ≡ None → close_from k p rest ≡ None
none_after k p q cs rest h e = grind arith

pub close_none : (k : ℕ) (a : At) → next_close a ≡ None → close_from k a.place a.text ≡ None
close_none k a e =
    let longest = front_longest (in_class Enclosed) a.text in
    grind (arith, close_past k a.place a.text, none_after, longest)

-- the next bracket in the text at h is at b, followed by r
pub record Next (h b r : At) : Type 0 where
  pub is : b ≡ after (in_class Enclosed) h
  pub text : b.text ≡ close_bracket ∷ r.text
  pub closes : (k : ℕ) → close_from k b.place b.text
      ≡ here_or_later close_bracket (after_hashes k r.place r.text) (close_from k r.place r.text)

pub next_is : (h b r : At) → next_close h ≡ Some (b, r) → Next h b r
next_is h b r e = grind (arith, none_some, eqb-true, some_same)

-- the text after it is shorter
pub next_shorter : (h b r : At) → next_close h ≡ Some (b, r) → length r.text < length h.text
next_shorter h b r e = grind (arith, next_is, front_after (in_class Enclosed) h.text, length-append)

-- ---- the search for it

pub at_first : (k : ℕ) (a : At) → Reached k a a
at_first k a = record { front = []; split = refl; closes = by_option (close_from k a.place a.text) }
  where
    by_option : (o : Option (List ℕ × At)) → after_front [] o ≡ o
    by_option None = refl
    by_option (Some w) = refl

pub reached_on : (k : ℕ) (a h g : At) → Reached k a h → Reached k h g → Reached k a g
reached_on k a h g x y = record {
  front = x.front ++ y.front;
  split = rw (append_assoc, ← y.split) x.split;
  closes = grind (arith, front_then, x.closes, y.closes);
}

-- if no bracket is left, nothing closes
pub reached_end : (k : ℕ) (a h : At) → Reached k a h → next_close h ≡ None → None
    ≡ close_from k a.place a.text
reached_end k a h g e = grind (arith, close_none)

-- the next bracket is reached
pub reached_bracket : (k : ℕ) (a h b r : At) → Reached k a h → next_close h ≡ Some (b, r)
    → Reached k a b
reached_bracket k a h b r g e =
    let n = next_is h b r e in rw n.is record {
      front = g.front ++ enclosed h.text;
      split = rw (append_assoc, front_after (in_class Enclosed) h.text) g.split;
      closes = grind (arith, front_then, close_past k h.place h.text, g.closes);
    }

-- and passed, if too few signs follow it
pub reached_past : (k : ℕ) (a h b r : At) → Reached k a h → next_close h ≡ Some (b, r)
    → after_hashes k r.place r.text ≡ None → Reached k a r
reached_past k a h b r g e none =
    grind (arith, next_is h b r e, reached_bracket k a h b r g e, append_assoc, one_more)

-- a candidate for the end of a text, from which it has been reached
pub candidate : (k : ℕ) (a h : At) (o : Option (At × At)) → Reached k a h → ReachesNext k h o
    → ReachesNext k a o
candidate k a h o x (g, y, e) = (g, reached_on k a h g x y, e)

-- the text after it is shorter
pub shorter_reached :
    (k : ℕ) (a h b r : At) → Reached k a h → next_close h ≡ Some (b, r)
    → length r.text < length a.text
shorter_reached k a h b r x e = grind (arith, next_shorter h b r e, x.split, length-append)

-- past a bracket that has another within k bytes, and so too few signs
pub past_near :
    (k : ℕ) (a b r next behind : At) → ReachesNext k a (Some (b, r))
    → next_close r ≡ Some (next, behind) → next.place - r.place < k
    → ReachesNext k a (Some (next, behind))
past_near k a b r next behind (h, reached, e) e' near =
    let n = next_is r next behind e' in
    let few : size (enclosed r.text) < k = grind (arith, n.is) in
    (r, reached_past k a h b r reached e (few_signs k r.place r.text few), e')

-- the next bracket is not before the text
pub next_place : (r next behind : At) → next_close r ≡ Some (next, behind) → r.place ≤ next.place
next_place r next behind e = let n = next_is r next behind e in grind (arith, n.is)

-- the text closes there, if the signs are there
pub reached_close :
    (k : ℕ) (a h b r q : At) (inner : List ℕ) → Reached k a h → next_close h ≡ Some (b, r)
    → after_hashes k r.place r.text ≡ Some q → inner ++ b.text ≡ a.text → Some (inner, q)
    ≡ close_from k a.place a.text
reached_close k a h b r q inner g e signs cut =
    let n = next_is h b r e in
    let there = reached_bracket k a h b r g e in
    let same = append_cancel_right inner there.front b.text (cut ∙ there.split) in
    grind (arith, same, there.closes, n.closes k, signs, append-nil there.front)

-- ---- a text in front of a rest of it

-- a rest by its characters is a rest by its bytes
pub rest_of_chars : (text rest front : List ℕ) → IsUtf8 text → IsUtf8 rest → chars text
    ≡ front ++ chars rest → IsRest text rest
rest_of_chars text rest front u v e =
    grind (arith, encodes-chars, encodes-append front (chars rest))

pub rest_short : (text rest : List ℕ) → IsRest text rest → length rest ≤ length text
rest_short text rest r = grind (arith, length-append)

pub chars_of_cut :
    (text rest front : List ℕ) → IsUtf8 text → IsUtf8 rest → IsRest text rest
    → front ≡ take (length text - length rest) text → chars front ++ chars rest ≡ chars text
chars_of_cut text rest front u v r e =
    let is_text = IsUtf8-take text (length text - length rest) u (rest_boundary text rest r v) in
    rw (e, ← chars-append _ rest is_text, cut_at_rest text rest r) refl
