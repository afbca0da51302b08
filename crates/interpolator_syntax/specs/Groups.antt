-- A text in round brackets, guarded by signs `#`.
use Rattle.std.specs.Prelude.{◌≡◌, ℕ, zero, suc, ◌+◌, ◌++◌, ◌==◌, ◌||◌, if◌then◌else◌, List, []}
use Rattle.std.specs.Prelude.{◌∷◌, length, Option, Some, None, option_map, Result, Ok, Err, codes}
use Rattle.std.specs.{Char.len_utf8, Str.chars, Borrow.Bor}
use Rattle.interpolator_syntax.specs.Places.{At, at, first, strip, after}
use Rattle.interpolator_syntax.specs.Classes.{in_class, hash, open_bracket, close_bracket}
use Rattle.interpolator_syntax.specs.Readers.{Reader, ◌>>=◌, give, span}
use Rattle.interpolator_syntax.specs.Faults.{Fault, parse, unclosed, expected, argument_fault_of}
use Rattle.interpolator_syntax.specs.declared.class.Class.TheVariants.{Hash, Enclosed}
use Rattle.interpolator_syntax.specs.declared.argument_fault.ArgumentFault.{ArgumentFault}
use Rattle.interpolator_syntax.specs.declared.cursor.Cursor.{Cursor}
use Rattle.interpolator_syntax.specs.declared.group.Group as code_group

-- the text after k signs, if there are as many at p
abbrev pub after_hashes : (k p : ℕ) → List ℕ → Option At
after_hashes zero p cs = Some (record { place = p; text = cs })
after_hashes (suc k) p [] = None
after_hashes (suc k) p (c ∷ cs) = if c == hash then after_hashes k (p + len_utf8 c) cs else None

-- a group's text that ends in front of the character c, with q after the signs that follow c; or
-- one that goes on with c and ends later
abbrev pub here_or_later : (c : ℕ) → Option At → Option (List ℕ × At) → Option (List ℕ × At)
here_or_later c (Some q) later = Some ([], q)
here_or_later c None later = option_map (λ w. (c ∷ w.0, w.1)) later

-- the text up to the first `)` that is followed by k signs, and the text after those
abbrev pub close_from : (k p : ℕ) → List ℕ → Option (List ℕ × At)
close_from k p [] = None
close_from k p (c ∷ cs) =
    here_or_later c (if c == close_bracket then after_hashes k (p + len_utf8 c) cs else None)
    (close_from k (p + len_utf8 c) cs)

-- a text in brackets, and where it begins
pub record Group : Type 0 where
  pub text : List ℕ
  pub place : ℕ

-- the text in a group, at its place
abbrev pub inside : Group → At
inside g = record { place = g.place; text = g.text }

-- the group whose text begins at p, if it closes
abbrev pub closed_group : (start p : ℕ) → Option (List ℕ × At) → Result (Group × At) Fault
closed_group start p None = Err (parse (unclosed start))
closed_group start p (Some w) = Ok (record { text = w.0; place = p }, w.1)

-- after k signs, a bracket as the first character, and the text up to where that closes
abbrev pub bracket_first : (start k : ℕ) → (a : At) → Option (ℕ × At) → Result (Group × At) Fault
bracket_first start k a None = Err (parse (unclosed start))
bracket_first start k a (Some w) =
    if w.0 == open_bracket
    then closed_group start w.1.place (close_from k w.1.place w.1.text)
    else Err (parse (expected (codes "(") a.place))

-- after k signs, a bracket, and the text up to where that closes
abbrev pub bracket_at : (start k : ℕ) → Reader Group
bracket_at start k = λ a. bracket_first start k a (first a)

-- a group of the argument that begins at `start`: all the signs that are here, `(`, and the text
-- up to the first `)` that is followed by as many signs
unfoldable pub group_at : (start : ℕ) → Reader Group
group_at start =
    do
      signs ← span Hash
      bracket_at start (length signs)

-- a group, if a `(` or a sign comes first
abbrev pub if_bracket : Reader Group → (a : At) → Option (ℕ × At)
    → Result (Option Group × At) Fault
if_bracket read a None = Ok (None, a)
if_bracket read a (Some w) =
    if w.0 == open_bracket || w.0 == hash then (read >>= λ g. give (Some g)) a else Ok (None, a)

-- a group, if there is one here
abbrev pub group_if : (start : ℕ) → Reader (Option Group)
group_if start = λ a. if_bracket (group_at start) a (first a)

-- the place b of a `)`, if one is there, and the text after it
abbrev pub with_after : (b : At) → Option At → Option (At × At)
with_after b None = None
with_after b (Some rest) = Some (b, rest)

-- the next `)`, and the text after it
abbrev pub next_close : At → Option (At × At)
next_close a =
    with_after (after (in_class Enclosed) a) (strip close_bracket (after (in_class Enclosed) a))

-- where a text closes, after a front of it
abbrev pub after_front : List ℕ → Option (List ℕ × At) → Option (List ℕ × At)
after_front front o = option_map (λ w. (front ++ w.0, w.1)) o

-- the text at a closes where the text at h does, after what was passed up to h
pub record Reached (k : ℕ) (a h : At) : Type 0 where
  pub front : List ℕ
  pub split : a.text ≡ front ++ h.text
  pub closes : after_front front (close_from k h.place h.text) ≡ close_from k a.place a.text

-- the next `)` of such a text, and the text after it
abbrev pub ReachesNext : (k : ℕ) → (a : At) → Option (At × At) → Type 0
ReachesNext k a next = (h : At) × Reached k a h × (next_close h ≡ next)

-- a text that the code read, and the text after it
abbrev pub text_read : Bor (List ℕ) × Cursor → List ℕ × At
text_read x = (chars x.0.now, at x.1)

-- the group that the code's group stands for, wherever in memory its text lies
abbrev pub group_of : code_group.Group → Group
group_of g = record { text = chars g.text.now; place = g.place }

-- a group that the code read up to `end`; or why it is broken
abbrev pub group_read : Result code_group.Group ArgumentFault → (end : At)
    → Result (Group × At) Fault
group_read (Ok g) end = Ok (group_of g, end)
group_read (Err broken) end = Err (argument_fault_of broken)

-- a group that may be absent, read up to `end`; or why it is broken
abbrev pub group_if_read : Result (Option code_group.Group) ArgumentFault → (end : At)
    → Result (Option Group × At) Fault
group_if_read (Ok g) end = Ok (option_map group_of g, end)
group_if_read (Err broken) end = Err (argument_fault_of broken)
