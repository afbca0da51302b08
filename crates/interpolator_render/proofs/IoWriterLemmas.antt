-- What a writer of bytes has got of a text.
use Rattle.std.proofs.Common.{arith, ◌≡◌, ℕ, Bool, true, false, ◌||◌, List, [], ◌∷◌, ◌++◌, length}
use Rattle.std.proofs.Common.{refl, sym, ◌∙◌, take, drop, take_all, take-append-drop, append_assoc}
use Rattle.std.proofs.Common.{append-nil, length-append, Option, Some, None, Result, Ok, Err, OnOk}
use Rattle.std.proofs.Common.{string_bytes, MatchResult, ap, encode_utf8_all, chars, IsUtf8}
use Rattle.std.proofs.lemmas.Str.{encodes-append, encodes-chars, IsUtf8-string_bytes}
use Rattle.std.proofs.Math.Seq.{take-append-add}
use Rattle.std.specs.{Io.KnownBytes.Appends, Io.KnownBytes.Keeps, declared.io.Error.Error}
use Rattle.interpolator_render.specs.PassedOn.{Gets, GetsFront}
use Rattle.interpolator_render.specs.IoWriters.{HandsOn, refuses}
use Rattle.interpolator_render.specs.declared.{below.Below.Below, text_write.Refusal.Refusal}
use Rattle.interpolator_render.specs.declared.io_writer.IoWriter.{IoWriter}

-- bytes that grow by some and then by more
pub gets_more : (a b c : Option (List ℕ)) (bs cs : List ℕ) → Appends a b bs → Appends b c cs
    → Appends a c (bs ++ cs)
gets_more a b c bs cs p q = grind (arith, append_assoc)

-- the bytes of the text taken are those passed on, and then those held
pub text_bytes : (text held : List ℕ) → IsUtf8 held
    → encode_utf8_all (text ++ chars held) ≡ encode_utf8_all text ++ held
text_bytes text held u = grind (arith, encodes-append, encodes-chars)

-- the bytes that were got are a front of these and of any more
pub front_got : (start now : Option (List ℕ)) (front rest bytes : List ℕ) → Gets start now front
    → bytes ≡ front ++ rest → GetsFront start now bytes
front_got None now front rest bytes p e = tt
front_got (Some xs) None front rest bytes p e = absurd p
front_got (Some xs) (Some ys) front rest bytes p e =
    let size = length-append xs front in
    let taken = take-append-add front rest 0 in
    grind (arith, length-append, take_all, append-nil)

-- neither has the writer below failed, nor was there no memory
pub open_below : (failed no_memory : Bool) → (failed || no_memory) ≡ false → failed ≡ false
open_below true b e = absurd (grind arith)
open_below false b e = refl

-- all that was held was passed on
pub passed_whole : (start now new : Option (List ℕ)) (text held : List ℕ) → IsUtf8 held
    → Gets start now (encode_utf8_all text) → Gets now new held
    → Gets start new (encode_utf8_all (text ++ chars held))
passed_whole start now new text held u p q =
    rw (text_bytes text held u) (gets_more start now new (encode_utf8_all text) held p q)

-- or a part of it
pub passed_part : (start now new : Option (List ℕ)) (text held : List ℕ) (count : ℕ)
    → Gets start now (encode_utf8_all text) → Gets now new (take count held)
    → GetsFront start new (encode_utf8_all text ++ held)
passed_part start now new text held count p q =
    front_got start new (encode_utf8_all text ++ take count held) (drop count held) _
    (gets_more start now new (encode_utf8_all text) (take count held) p q)
    (grind (arith, append_assoc, take-append-drop))

-- known bytes that stay as they were are the bytes and no more
keeps_none : (a b : Option (List ℕ)) → Keeps a b → Appends a b []
keeps_none None b k = tt
keeps_none (Some xs) None k = absurd k
keeps_none (Some xs) (Some ys) k = rw k (sym (append-nil xs))

stays : (a : Option (List ℕ)) → Keeps a a
stays None = tt
stays (Some xs) = refl

-- and then bytes that were got before are still there
gets_kept : (a b c : Option (List ℕ)) (bytes : List ℕ) → Gets a b bytes → Keeps b c → Gets a c bytes
gets_kept a b c bytes p k =
    rw (append-nil bytes) at (gets_more a b c bytes [] p (keeps_none b c k))

module _ {W : Type 0} {g : _} (reported : W → Option (List ℕ)) where
  -- a part of what was held, before a write failed
  pub hands_part : (old new : IoWriter W g) (count : ℕ)
      → Gets (reported old.below.inner) (reported new.below.inner) (take count (string_bytes old.held))
      → new.below.failed ≡ true → HandsOn reported old new []
  hands_part old new count got f = record {
    front = take count (string_bytes old.held);
    rest = drop count (string_bytes old.held);
    parts = append-nil (string_bytes old.held) ∙ sym (take-append-drop count (string_bytes old.held));
    got = got;
    held = λ fine. absurd (let failed = f in grind arith);
  }

  -- an empty text
  pub hands_none : (w : IoWriter W g) (bytes : List ℕ) → length bytes ≡ 0 → HandsOn reported w w bytes
  hands_none w (b ∷ bytes) e = absurd (omega arith)
  hands_none w [] e = record {
    front = [];
    rest = string_bytes w.held;
    parts = append-nil (string_bytes w.held);
    got = keeps_none _ _ (stays (reported w.below.inner));
    held = λ fine. refl;
  }

  -- more bytes were gathered
  hands_more : (old mid new : IoWriter W g) (more : List ℕ) → HandsOn reported old mid []
      → refuses mid ≡ false → new.below ≡ mid.below
      → string_bytes new.held ≡ string_bytes mid.held ++ more → HandsOn reported old new more
  hands_more old mid new more h f same e = record {
    front = h.front;
    rest = h.rest ++ more;
    parts = ap (λ bytes. bytes ++ more) (sym (append-nil (string_bytes old.held)) ∙ h.parts)
        ∙ append_assoc h.front h.rest more;
    got = rw same h.got;
    held = λ fine. e ∙ ap (λ bytes. bytes ++ more) (h.held f);
  }

  -- after the way was made, a text was gathered, or there was no memory for it
  pub hands_after : (old mid new : IoWriter W g) (more : List ℕ) (answer : Result (Unit {0}) Refusal)
      → HandsOn reported old mid [] → refuses mid ≡ false → new.below ≡ mid.below
      → MatchResult answer (λ _. string_bytes new.held ≡ string_bytes mid.held ++ more)
      (λ _. string_bytes new.held ≡ string_bytes mid.held)
      → MatchResult answer (λ _. HandsOn reported old new more) (λ _. HandsOn reported old new [])
  hands_after old mid new more (Ok x) h f same e = hands_more old mid new more h f same e
  hands_after old mid new more (Err r) h f same e =
      hands_more old mid new [] h f same (e ∙ sym (append-nil (string_bytes mid.held)))

-- the writer below still has got all, if nothing failed
pub all_kept : {W : Type 0} {g : _} (mid : IoWriter W g) (new : Below W)
    (answer : Result (Unit {0}) Error) → mid.below.failed ≡ false
    → string_bytes mid.held ≡ [] → Keeps (g.contents mid.below.inner) (g.contents new.inner)
    → OnOk answer (Gets mid.passed_on.start (g.contents new.inner)
    (encode_utf8_all (mid.passed_on.text ++ chars (string_bytes mid.held))))
all_kept mid new (Ok x) f none k =
    rw (text_bytes mid.passed_on.text _ (IsUtf8-string_bytes mid.held), none, append-nil _)
    (gets_kept mid.passed_on.start _ _ _ (mid.whole f) k)
all_kept mid new (Err e) f none k = tt
