-- A text that goes to a writer character by character.
use Rattle.std.proofs.Common.{◌≡◌, ℕ, ◌<◌, ◌+◌, true, List, [], ◌∷◌, ◌++◌, length, refl, sym, ◌∙◌}
use Rattle.std.proofs.Common.{ap, arith, append-nil, append_assoc, length-append}
use Rattle.std.proofs.lemmas.Str.{chars-append, chars-nil, IsUtf8-append, IsUtf8-encode, IsUtf8-nil}
use Rattle.std.proofs.lemmas.Str.{IsUtf8-past_char, chars_past_char}
use Rattle.std.specs.{Prelude.encode_utf8, Str.chars, Str.IsUtf8}
use Rattle.interpolator_render.specs.Writers.{Written, Appends, Refuses}
use Rattle.interpolator_render.proofs.{CharacterLemmas.scalar_first, WrittenLemmas.chars-encode}
use Rattle.interpolator_render.proofs.LayoutLemmas.{byte_count-chars}

-- the writer took `taken` bytes of the text, and `rest` is to come
pub record Taken (old : Written) (text rest : List ℕ) (taken : ℕ) (now : Written) : Type 0 where
  pub after : List ℕ
  pub parts : text ≡ after ++ rest
  pub after_valid : IsUtf8 after
  pub rest_valid : IsUtf8 rest
  pub counted : taken ≡ length after
  pub appended : now.text ≡ old.text ++ chars after
  pub same_flag : now.refused ≡ old.refused
  pub only_empty : old.refused ≡ true → after ≡ []
  pub same_origin : now.origin ≡ old.origin

pub taken_none : (old : Written) (text : List ℕ) → IsUtf8 text → Taken old text text 0 old
taken_none old text u = record {
  after = [];
  parts = refl;
  after_valid = IsUtf8-nil;
  rest_valid = u;
  counted = refl;
  appended = rw chars-nil (sym (append-nil old.text));
  same_flag = refl;
  only_empty = λ _. refl;
  same_origin = refl;
}

-- one more character was taken
pub taken_more : (old now new : Written) (text rest after : List ℕ) (taken c : ℕ)
    (size : ℕ) → size ≡ length (encode_utf8 c) → rest ≡ encode_utf8 c ++ after
    → Taken old text rest taken now → Appends now (c ∷ []) new
    → Taken old text after (taken + size) new
taken_more old now new text rest after taken c size z e k a =
    let s = scalar_first rest after c k.rest_valid e in
    let more : chars (k.after ++ encode_utf8 c) ≡ chars k.after ++ (c ∷ []) =
    chars-append k.after (encode_utf8 c) k.after_valid
    ∙ ap (λ (x : List ℕ). chars k.after ++ x) (chars-encode c s) in
    record {
      after = k.after ++ encode_utf8 c;
      parts = k.parts ∙ (ap (λ (x : List ℕ). k.after ++ x) e
          ∙ sym (append_assoc k.after (encode_utf8 c) after));
      after_valid = IsUtf8-append k.after (encode_utf8 c) k.after_valid (IsUtf8-encode c s);
      rest_valid = IsUtf8-past_char rest after c k.rest_valid e;
      counted = let n = length-append k.after (encode_utf8 c) in let m = k.counted in
          omega (arith, z);
      appended = a.appended ∙ (ap (λ (x : List ℕ). x ++ (c ∷ [])) k.appended
          ∙ (append_assoc old.text (chars k.after) (c ∷ [])
          ∙ ap (λ (x : List ℕ). old.text ++ x) (sym more)));
      same_flag = a.same_flag ∙ k.same_flag;
      only_empty = λ h. let n = ap length (a.only_empty (k.same_flag ∙ h)) in absurd (omega arith);
      same_origin = a.same_origin ∙ k.same_origin;
    }

-- how far the text goes after the part that was taken
pub taken_fits : (old now : Written) (text rest after : List ℕ) (taken c : ℕ)
    → rest ≡ encode_utf8 c ++ after → Taken old text rest taken now
    → taken + (length (encode_utf8 c) + length after) ≡ length text
taken_fits old now text rest after taken c e k =
    let n = length-append k.after rest in let m = length-append (encode_utf8 c) after in
    let p = ap length k.parts in let q = ap length e in let t = k.counted in omega arith

-- the whole text was taken
pub taken_whole : (old now : Written) (text rest : List ℕ) (taken : ℕ) → rest ≡ []
    → Taken old text rest taken now → Appends old (chars text) now
taken_whole old now text rest taken e k =
    let all : text ≡ k.after = k.parts ∙ (ap (λ (x : List ℕ). k.after ++ x) e
    ∙ append-nil k.after) in
    record {
      appended = rw all k.appended;
      same_flag = k.same_flag;
      only_empty = λ h. ap chars (all ∙ k.only_empty h) ∙ chars-nil;
      same_origin = k.same_origin;
    }

-- a proper beginning of one character is empty
none_of_one : (c : ℕ) (beginning rest : List ℕ) → (c ∷ []) ≡ beginning ++ rest → 0 < length rest
    → beginning ≡ []
none_of_one c [] rest e h = refl
none_of_one c (b ∷ bs) rest e h =
    let n = ap length e in let m = length-append bs rest in absurd (omega arith)

-- a character was refused, so everything from it on was refused
pub taken_part : (old now new : Written) (text rest after : List ℕ) (taken c k : ℕ)
    → rest ≡ encode_utf8 c ++ after → Taken old text rest taken now → Refuses now (c ∷ []) k new
    → Refuses old (chars text) taken new
taken_part old now new text rest after taken c n e k r =
    let none = none_of_one c r.part.beginning r.part.rest r.part.parts r.part.not_whole in
    let only : r.part.rest ≡ c ∷ [] = sym (rw none at r.part.parts) in
    record {
      part = record {
        beginning = chars k.after;
        rest = chars rest;
        parts = ap chars k.parts ∙ chars-append k.after rest k.after_valid;
        not_whole = rw (chars_past_char rest after c k.rest_valid e) (omega arith);
        appended = r.part.appended ∙ (ap (λ (x : List ℕ). now.text ++ x) none
            ∙ (append-nil now.text ∙ k.appended));
        flag_set = r.part.flag_set;
        none_after_refusal = λ h. ap chars (k.only_empty h) ∙ chars-nil;
        same_origin = r.part.same_origin ∙ k.same_origin;
        over = rw (← k.same_origin, ← k.same_flag, chars_past_char rest after c k.rest_valid e)
            (rw only at r.part.over);
      };
      counted = k.counted ∙ sym (byte_count-chars k.after k.after_valid);
    }
