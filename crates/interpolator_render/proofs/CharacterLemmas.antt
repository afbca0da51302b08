-- Texts walked character by character: where a number of characters ends.
use Rattle.std.proofs.Common.{◌≡◌, ℕ, ◌-◌, ◌+◌, List, ◌++◌, length, take, ◌∙◌, ap, arith}
use Rattle.std.proofs.Common.{append_assoc, append-nil, length-append, encode_utf8, chars, IsUtf8}
use Rattle.std.proofs.Common.{IsCharBoundary}
use Rattle.std.proofs.lemmas.Str.{chars-append, chars-nil, IsUtf8-append, IsUtf8-encode}
use Rattle.std.proofs.lemmas.Str.{IsCharBoundary-at_seam, cons_from_encodes, IsUtf8-past_char}
use Rattle.std.proofs.{lemmas.Grind.common_steps, Math.Seq.take-append_seam}
use Rattle.std.specs.Char.{IsScalar}
use Rattle.interpolator_render.proofs.WrittenLemmas.{chars-encode}

pub scalar_first : (rest after : List ℕ) (c : ℕ) → IsUtf8 rest → rest ≡ encode_utf8 c ++ after →
    IsScalar c
scalar_first rest after c u e = grind (arith, cons_from_encodes)

-- `count` characters of the text were passed, and `rest` is to come
pub record Walked (text rest : List ℕ) (count : ℕ) : Type 0 where
  pub after : List ℕ
  pub parts : text ≡ after ++ rest
  pub counted : length (chars after) ≡ count
  pub after_valid : IsUtf8 after
  pub rest_valid : IsUtf8 rest

pub walked_none : (text : List ℕ) → IsUtf8 text → Walked text text 0
walked_none text u = grind (arith, chars-nil)

pub walked_more : (text rest after : List ℕ) (count c : ℕ) → rest ≡ encode_utf8 c ++ after →
    Walked text rest count → Walked text after (count + 1)
walked_more text rest after count c e w = let s = scalar_first rest after c w.rest_valid e in
    record {
      after = w.after ++ encode_utf8 c;
      parts = grind (arith, append_assoc);
      counted = grind (arith, chars-append w.after, chars-encode, length-append);
      after_valid = IsUtf8-append _ _ w.after_valid (IsUtf8-encode c s);
      rest_valid = IsUtf8-past_char rest after c w.rest_valid e;
    }

-- where the first `count` characters end
pub walked_chars : (text rest : List ℕ) (count : ℕ) → (w : Walked text rest count) →
    chars w.after ≡ take count (chars text)
walked_chars text rest count w = grind (arith, chars-append, take-append_seam)

walked_length : (text rest : List ℕ) (count : ℕ) → (w : Walked text rest count) →
    length text - length rest ≡ length w.after
walked_length text rest count w = grind (arith, length-append)

pub walked_take : (text rest : List ℕ) (count : ℕ) → (w : Walked text rest count) →
    take (length text - length rest) text ≡ w.after
walked_take text rest count w = grind (arith, common_steps, walked_length, take-append_seam)

pub walked_end : (text rest : List ℕ) (count : ℕ) → Walked text rest count →
    chars (take (length text - length rest) text) ≡ take count (chars text)
walked_end text rest count w = ap chars (walked_take text rest count w)
    ∙ walked_chars text rest count w

pub walked_boundary : (text rest : List ℕ) (count : ℕ) → Walked text rest count →
    IsCharBoundary text (length text - length rest)
walked_boundary text rest count w = rw (walked_length text rest count w)
    (IsCharBoundary-at_seam text w.after rest w.parts w.rest_valid)

-- all of a text was walked, and its characters counted
pub walked_all : (text rest : List ℕ) (count : ℕ) → length rest ≡ 0 → Walked text rest count →
    length (chars text) ≡ count
walked_all text rest count e w = grind (arith, common_steps, append-nil)

-- the characters walked are as many as were counted
pub walked_count : (text rest : List ℕ) (count : ℕ) → Walked text rest count →
    length (chars (take (length text - length rest) text)) ≡ count
walked_count text rest count w = grind (arith, common_steps, walked_take)
