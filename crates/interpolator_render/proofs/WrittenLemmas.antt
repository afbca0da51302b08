-- What a writer over a `String` took or refused.
use Rattle.std.proofs.Common.{◌≡◌, ◌⊎◌, ℕ, ◌+◌, ◌<◌, Bool, true, false, List, [], ◌∷◌, ◌++◌, length}
use Rattle.std.proofs.Common.{refl, None, Some, sym, ◌∙◌, ap, arith, append-nil, encode_utf8}
use Rattle.std.proofs.Common.{encode_utf8_all, Result, MatchResult, Option, chars, IsUtf8}
use Rattle.std.proofs.lemmas.{Grind.common_steps, Str.chars-append, Str.chars-nil}
use Rattle.std.proofs.lemmas.{Str.IsUtf8-encode, Str.chars_past_char, Str.encodes-chars}
use Rattle.interpolator_render.specs.declared.text_write.Refusal.{Refusal}
use Rattle.interpolator_render.specs.Writers.{Written, Appends, Refuses, AppendsWithin, StaysWithin}
use Rattle.interpolator_render.specs.Writers.{GoesOver, byte_count, first_size}
use Rattle.std.specs.Char.{IsScalar}

-- an empty text changes nothing
pub appends_nothing : (w : Written) (bytes : List ℕ) → length bytes ≡ 0 → Appends w (chars bytes) w
appends_nothing w bytes e = grind (arith, common_steps, chars-nil, append-nil)

pub ruleset empty_text = chars-nil

-- a buffer whose bytes grew by the text's, with no refusal before
pub buffer_appends : (now new : Written) (a b : List ℕ) → IsUtf8 a → now.text ≡ chars a →
    now.refused ≡ false → new.text ≡ chars (a ++ b) → new.refused ≡ false →
    new.origin ≡ now.origin → Appends now (chars b) new
buffer_appends now new a b u s f t g o = grind (arith, chars-append)

pub chars-encode : (c : ℕ) → IsScalar c → chars (encode_utf8 c) ≡ c ∷ []
chars-encode c s =
    chars_past_char (encode_utf8 c) [] c (IsUtf8-encode c s) (sym (append-nil (encode_utf8 c)))
    ∙ ap (λ (x : List ℕ). c ∷ x) chars-nil

pub ruleset one_character = chars-encode

-- what a writer appended or returned, whatever its limit
pub appended_within : (limit after : Option ℕ) (now new : Written) (text : List ℕ) →
    AppendsWithin limit after now text new → Appends now text new
appended_within limit after now new text p = grind arith

pub whatever_limit : (limit after : Option ℕ) (now new : Written) (text : List ℕ)
    (answer : Result (Unit {0}) Refusal) →
    MatchResult answer (λ _. AppendsWithin limit after now text new)
    (λ refusal. Refuses now text refusal.taken new) →
    MatchResult answer (λ _. Appends now text new)
    (λ refusal. Refuses now text refusal.taken new)
whatever_limit limit after now new text answer p = grind (arith, appended_within)

pub stays_within : (limit after : Option ℕ) (now new : Written) →
    StaysWithin limit after now new → new ≡ now
stays_within limit after now new p = grind arith

-- a writer with no bound, or one that had refused before, may refuse anything
pub may_refuse : (bound : Option ℕ) (refused : Bool) (bytes : ℕ)
    → (bound ≡ None) ⊎ (refused ≡ true) → GoesOver bound refused bytes
may_refuse None refused bytes p = tt
may_refuse (Some most) true bytes p = tt
may_refuse (Some most) false bytes p = grind arith

-- nothing was taken of a text that is not empty
pub refuses_all : (now new : Written) (text : List ℕ) → 0 < length text → new.text ≡ now.text →
    new.refused ≡ true → new.origin ≡ now.origin →
    GoesOver now.origin.bound now.refused (byte_count new.text + first_size text) →
    Refuses now text 0 new
refuses_all now new text ne e r o v = record {
  part = record {
    beginning = [];
    rest = text;
    parts = refl;
    not_whole = ne;
    appended = e ∙ sym (append-nil now.text);
    flag_set = r;
    none_after_refusal = λ _. refl;
    same_origin = o;
    over = v;
  };
  counted = refl;
}

-- a text of some bytes has some characters
pub chars_nonempty : (bytes : List ℕ) → IsUtf8 bytes → 0 < length bytes → 0 < length (chars bytes)
chars_nonempty bytes u ne = at (chars bytes) (encodes-chars bytes u)
  where
    at : (cs : List ℕ) → encode_utf8_all cs ≡ bytes → 0 < length cs
    at [] e = absurd (omega (arith, ap length e))
    at (c ∷ cs) e = omega arith
