-- The characters of a text, read one after the other: where they end, those that begin before a
-- byte, and the last line.
use Rattle.std.proofs.Common.{◌≡◌, ◌≢◌, ℕ, ◌<◌, ◌≤◌, ◌+◌, ◌-◌, not, cond, List, [], ◌∷◌, ◌++◌}
use Rattle.std.proofs.Common.{length, take, drop, refl, sym, ◌∙◌, ap, arith, append-nil}
use Rattle.std.proofs.Common.{append_assoc}
use Rattle.std.proofs.lemmas.List.{append_cancel_right, drop-drop, length-reverse, length-take}
use Rattle.std.proofs.lemmas.List.{nil_from_length, reverse-append, take-append-drop}
use Rattle.std.proofs.lemmas.Str.{IsCharBoundary-past_char, IsCharBoundary-start, IsUtf8-drop}
use Rattle.std.proofs.lemmas.Str.{IsUtf8-take, chars-append, chars-nil, chars_past_char}
use Rattle.std.proofs.lemmas.Str.{drop_past_char, encodes-chars, length-le-encodes}
use Rattle.std.proofs.{Math.Seq.take-add, lemmas.List.Sums.take_while-cons}
use native.Mathlib.Numerals.{unary_clauses}
use Rattle.std.specs.Prelude.{◌==◌, reverse, encode_utf8}
use Rattle.std.specs.{Char.len_utf8, Str.chars, Str.IsUtf8, Str.IsCharBoundary}
use Rattle.interpolator.specs.Positions.{begun_before, line_end, last_line}

-- `count` characters were read, as far as the byte `end`; the bytes `rest` are still to come
pub record Read (text rest : List ℕ) (count end : ℕ) : Type 0 where
  pub there : drop end text ≡ rest
  pub boundary : IsCharBoundary text end
  pub left : chars rest ≡ drop count (chars text)

pub read_none : (text : List ℕ) → IsUtf8 text → Read text text 0 0
read_none text u = record { there = refl; boundary = IsCharBoundary-start text u; left = refl }

-- none begins before the byte 0
begun_none : (place : ℕ) (cs : List ℕ) → place ≡ 0 → begun_before place cs ≡ []
begun_none place [] h = refl
begun_none place (c ∷ cs) h = rw h refl

-- one more character begins before the place
begun_one : (place end size c : ℕ) (cs : List ℕ) → end < place → size ≡ len_utf8 c
    → begun_before (place - end) (c ∷ cs) ≡ c ∷ begun_before (place - (end + size)) cs
begun_one place end size c cs h e = grind arith

-- the characters that begin before a byte are those that were read and, of those still to come,
-- the ones that begin before it
abbrev pub BegunAfter : (text : List ℕ) → (count end place : ℕ) → Type 0
BegunAfter text count end place = begun_before place (chars text)
    ≡ take count (chars text) ++ begun_before (place - end) (drop count (chars text))

pub begun_start : (text : List ℕ) (place : ℕ) → BegunAfter text 0 0 place
begun_start text place = simp unary_clauses

module _ {text rest : List ℕ} {count end : ℕ} (u : IsUtf8 text) (r : Read text rest count end) where
  -- the characters up to there
  pub read_front : chars (take end text) ≡ take count (chars text)
  read_front =
      let cs = chars text in
      append_cancel_right (chars (take end text)) (take count cs) (drop count cs) (rw (
        ← r.left,
        ← r.there,
        ← chars-append (take end text) (drop end text) (IsUtf8-take text end u r.boundary),
        take-append-drop,
      ) (rw (r.there, r.left, take-append-drop) refl))

  -- no bytes are still to come
  pub read_end : length rest ≡ 0 → drop count (chars text) ≡ []
  read_end none = sym r.left ∙ rw (nil_from_length rest none) chars-nil

  -- the place was reached, or the end
  pub begun_there : (place : ℕ) → place ≤ end → BegunAfter text count end place
      → chars (take end text) ≡ begun_before place (chars text)
  begun_there place h b =
      grind (arith, read_front, b, begun_none, append-nil)

  pub begun_end : (place : ℕ) → length rest ≡ 0 → BegunAfter text count end place
      → chars text ≡ begun_before place (chars text)
  begun_end place h b =
      grind (arith, read_end, b, take-append-drop count (chars text))

  module _ (after : List ℕ) (c size : ℕ) (z : size ≡ len_utf8 c) (e : rest ≡ encode_utf8 c ++ after)
    where
      next : drop count (chars text) ≡ c ∷ chars after
      next =
          let valid : IsUtf8 rest = rw (← r.there) (IsUtf8-drop text end u r.boundary) in
          sym r.left ∙ chars_past_char rest after c valid e

      -- one more was read
      pub read_more : Read text after (count + 1) (end + size)
      read_more =
          let rest_is = r.there ∙ e in
          rw z (record {
            there = drop_past_char text after end c rest_is;
            boundary = IsCharBoundary-past_char text after end c r.boundary.0
                (IsUtf8-drop text end u r.boundary) rest_is;
            left = sym (rw (← drop-drop, next) refl);
          })

      pub begun_more : (place : ℕ) → end < place → BegunAfter text count end place
          → BegunAfter text (count + 1) (end + size) place
      begun_more place h b =
          b ∙ rw (
            take-add count 1 (chars text),
            ← drop-drop 1 count (chars text),
            next,
            append_assoc,
            begun_one place end size c (chars after) h z,
          ) refl

-- one more character in the last line, or a line end
last_line_more : (cs : List ℕ) (c : ℕ)
    → last_line (cs ++ (c ∷ [])) ≡ cond (not (c == line_end)) (c ∷ last_line cs) []
last_line_more cs c =
    rw (reverse-append cs (c ∷ [])) (take_while-cons (λ d. not (d == line_end)) c (reverse cs))

-- a line end begins a line
pub last_line_ends : (cs : List ℕ) (c : ℕ) → c ≡ line_end
    → 1 ≡ length (last_line (cs ++ (c ∷ []))) + 1
last_line_ends cs c h = rw (last_line_more cs c, h) refl

-- any other character is one more in its line
pub last_line_goes_on : (cs : List ℕ) (c column : ℕ) → c ≢ line_end
    → column ≡ length (last_line cs) + 1 → column + 1 ≡ length (last_line (cs ++ (c ∷ []))) + 1
last_line_goes_on cs c column h e = rw (last_line_more cs c) (grind arith)

-- the last line is no longer than the text
pub last_line_short : (cs : List ℕ) → length (last_line cs) ≤ length cs
last_line_short cs = grind (arith, length-reverse {A = ℕ}, length-take {A = ℕ})

-- a text has no more characters than bytes
pub characters_short : (text : List ℕ) → IsUtf8 text → length (chars text) ≤ length text
characters_short text u = omega (arith, ap length (encodes-chars text u), length-le-encodes)
