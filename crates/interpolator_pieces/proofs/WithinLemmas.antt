-- Texts that lie in another text, each at its place.
use Rattle.std.proofs.Common.{◌≡◌, List, [], ◌++◌, ℕ, arith, sym, append_assoc, append-nil}
use Rattle.interpolator_syntax.specs.Places.{At, after}
use Rattle.interpolator_syntax.specs.Classes.{front_of, in_class}
use Rattle.interpolator_syntax.specs.Groups.{Group, inside}
use Rattle.interpolator_syntax.specs.declared.class.Class.TheVariants.{WhiteSpace, Name}
use Rattle.interpolator_syntax.proofs.LocalityLemmas.{Takes, stands, takes_none, takes_after}
use Rattle.interpolator_syntax.proofs.LocalityLemmas.{size-append}
use Rattle.interpolator_syntax.proofs.{FrontLemmas.front_after, SizeLemmas.GroupIn}
use Rattle.interpolator_pieces.specs.Stored.{Within}

-- what lies in a part of a text lies in the text
pub within_then : (a b c : At) → Within a b → Within b c → Within a c
within_then a b c h k = record {
  front = h.front ++ k.front;
  back = k.back ++ h.back;
  split = rw (h.split, k.split) (simp append_assoc);
  place = omega (arith, h.place, k.place, size-append h.front k.front);
}

-- what follows the front of a text
pub after_front : (a b : At) → Takes a b → Within a b
after_front a b t = record {
  front = t.front;
  back = [];
  split = rw append-nil t.split;
  place = t.place;
}

-- the whole text
pub within_same : (a : At) → Within a a
within_same a = after_front a a (takes_none a)

-- the front itself
pub front_within : (a : At) (cs more : List ℕ) → a.text ≡ cs ++ more → Within a (stands a.place cs)
front_within a cs more e =
    record { front = []; back = more; split = e; place = omega arith }

-- a group
pub group_stands : (a : At) (g : Group) → GroupIn g a → Within a (inside g)
group_stands a g h = record { front = h.front; back = h.back; split = h.split; place = h.place }

-- ---- a name

-- the name of an argument comes after white space
pub name_within :
    (a : At) → (let from = after (in_class WhiteSpace) a in
    Within a (stands from.place (front_of (in_class Name) from.text)))
name_within a =
    let from = after (in_class WhiteSpace) a in
    let name = front_of (in_class Name) from.text in
    within_then a from _ (after_front a from (takes_after (in_class WhiteSpace) a))
    (front_within from name _ (sym (front_after (in_class Name) from.text)))
