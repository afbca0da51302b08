-- What a bounded writer took of a text, and why it refused the rest.
use Rattle.std.proofs.Common.{◌≡◌, ◌⊎◌, inl, inr, ℕ, ◌+◌, ◌<◌, ◌≤◌, Bool, true, false, List, []}
use Rattle.std.proofs.Common.{◌∷◌, ◌++◌, length, take, drop, refl, sym, ◌∙◌, ap, arith, append-nil}
use Rattle.std.proofs.Common.{length-append, length-drop, length-take-le, take-append-drop}
use Rattle.std.proofs.Common.{lt_of_not-le, encode_utf8_all, chars, IsUtf8, IsCharBoundary}
use Rattle.std.proofs.lemmas.Str.{encodes-chars, chars-append, chars-nil, IsUtf8-append}
use Rattle.std.proofs.lemmas.Str.{IsUtf8-take, IsUtf8-drop, IsCharBoundary-past_char, length-encode}
use Rattle.std.proofs.lemmas.Str.{len_utf8_bounds}
use Rattle.interpolator_render.specs.Writers.{Written, Refuses, GoesOver, byte_count, first_size}
use Rattle.interpolator_render.specs.Bounds.{BoundedText, IsReady, bounded, RefusesFor}
use Rattle.interpolator_render.proofs.WrittenLemmas.{chars_nonempty}

-- a writer that had refused before, or whose text would go over its bound
pub past_bound : (ready refused : Bool) (most bytes : ℕ) → (refused ≡ true) ⊎ (most < bytes)
    → GoesOver (bounded most ready).bound refused bytes
past_bound true true most bytes p = tt
past_bound true false most bytes p = grind arith
past_bound false refused most bytes p = tt

-- a writer that has the memory for its bound lacks none for a text within it
pub within_memory : (ready refused : Bool) (most room used bytes : ℕ) → IsReady ready most room
    → (refused ≡ true) ⊎ (room < used) → used ≤ most
    → GoesOver (bounded most ready).bound refused bytes
within_memory true true most room used bytes i p l = tt
within_memory true false most room used bytes i p l = let r = i refl in grind arith
within_memory false refused most room used bytes i p l = tt

-- the first character after a border ends past `left`, if no later border is within it
first_beyond : (text : List ℕ) (taken left : ℕ) → IsUtf8 text → IsCharBoundary text taken
    → left < length text → taken ≤ left
    → ((i : ℕ) → taken < i → i ≤ left → ¬ (IsCharBoundary text i))
    → left < taken + first_size (chars (drop taken text))
first_beyond text taken left v border short fits nearest = at (chars (drop taken text)) refl
  where
    back : IsUtf8 (drop taken text)
    back = IsUtf8-drop text taken v border

    at : (cs : List ℕ) → chars (drop taken text) ≡ cs → left < taken + first_size cs
    at [] e = absurd (grind (arith, chars_nonempty (drop taken text) back, length-drop))
    at (c ∷ cs) e = let size = length-encode c in let some = (len_utf8_bounds c).0 in
        let spelled = sym (encodes-chars (drop taken text) back) ∙ ap encode_utf8_all e in
        lt_of_not-le (λ h. nearest _ (omega arith) (rw (← size) h)
        (IsCharBoundary-past_char text (encode_utf8_all cs) taken c (omega arith) back spelled))

-- a beginning was taken of a text over the bound, since the flag was set, there was no memory, or
-- no border of the text lies after it and within what was left
pub beginning_over : (ready refused : Bool) (bytes text : List ℕ) (most room taken left : ℕ)
    → IsUtf8 bytes → IsUtf8 text → IsReady ready most room → most ≡ length bytes + left
    → IsCharBoundary text taken → taken ≤ left → left < length text
    → (refused ≡ true) ⊎ (((taken ≡ 0) × (room < length bytes + left))
    ⊎ ((i : ℕ) → taken < i → i ≤ left → ¬ (IsCharBoundary text i)))
    → GoesOver (bounded most ready).bound refused
    (byte_count (chars (bytes ++ take taken text)) + first_size (chars (drop taken text)))
beginning_over ready refused bytes text most room taken left u v i m border fits short (inl h) =
    past_bound ready refused most _ (inl h)
beginning_over ready refused bytes text most room taken left u v i m border fits short (inr (inl h))
    = within_memory ready refused most room (length bytes + left) _ i (inr h.1) (omega arith)
beginning_over ready refused bytes text most room taken left u v i m border fits short
    (inr (inr nearest)) =
    let front = IsUtf8-take text taken v border in
    let held = encodes-chars _ (IsUtf8-append bytes (take taken text) u front) in
    let beyond = first_beyond text taken left v border short fits nearest in
    past_bound ready refused most _ (inr (grind (arith, length-append, length-take-le)))

-- a beginning that ends at a character's border was taken, and the flag set
pub beginning_refused : (old new : Written) (bytes text : List ℕ) (taken : ℕ) → IsUtf8 bytes
    → IsUtf8 text → old.text ≡ chars bytes → new.text ≡ chars (bytes ++ take taken text)
    → new.refused ≡ true → IsCharBoundary text taken → taken < length text
    → (old.refused ≡ true → taken ≡ 0) → new.origin ≡ old.origin
    → GoesOver old.origin.bound old.refused
    (byte_count (chars (bytes ++ take taken text)) + first_size (chars (drop taken text)))
    → Refuses old (chars text) taken new
beginning_refused old new bytes text taken u v o n flag border short none same goes =
    let front = IsUtf8-take text taken v border in record {
      part = record {
        beginning = chars (take taken text);
        rest = chars (drop taken text);
        parts = rw (← chars-append _ (drop taken text) front, take-append-drop) refl;
        not_whole = grind (arith, chars_nonempty, IsUtf8-drop, length-drop);
        appended = grind (arith, chars-append);
        flag_set = flag;
        none_after_refusal = λ h. grind (arith, chars-nil);
        same_origin = same;
        over = rw (← n) at goes;
      };
      counted = grind (arith, encodes-chars, length-take-le);
    }

-- why a text over the bound is refused: the flag was set, there was no memory, or no border of the
-- text lies after the beginning that was taken and within what was left
pub refused_over_bound : (old : BoundedText) (bytes after text : List ℕ)
    (refused refused_after ready : Bool) (most room room_after taken left : ℕ) → IsUtf8 bytes
    → IsUtf8 text
    → record { text = chars bytes; refused = refused; most = most; ready = ready; room = room }
    ≡ old
    → after ≡ bytes ++ take taken text → most ≡ length bytes + left
    → IsCharBoundary text taken → taken ≤ left → left < length text
    → (refused ≡ true) ⊎ (((taken ≡ 0) × (room < length bytes + left))
    ⊎ ((i : ℕ) → taken < i → i ≤ left → ¬ (IsCharBoundary text i)))
    → RefusesFor old (chars text)
    (record {
      text = chars after;
      refused = refused_after;
      most = most;
      ready = ready;
      room = room_after;
    })
refused_over_bound old bytes after text refused refused_after ready most room room_after taken left u
    v e n m border fits short (inl h) = grind arith
refused_over_bound old bytes after text refused refused_after ready most room room_after taken left u
    v e n m border fits short (inr (inl h)) = grind (arith, encodes-chars, append-nil)
refused_over_bound old bytes after text refused refused_after ready most room room_after taken left u
    v e n m border fits short (inr (inr nearest)) = at (chars (drop taken text)) refl
  where
    front : IsUtf8 (take taken text)
    front = IsUtf8-take text taken v border

    back : IsUtf8 (drop taken text)
    back = IsUtf8-drop text taken v border

    beyond : left < taken + first_size (chars (drop taken text))
    beyond = first_beyond text taken left v border short fits nearest

    at : (cs : List ℕ) → chars (drop taken text) ≡ cs → RefusesFor old (chars text)
        (record {
          text = chars after;
          refused = refused_after;
          most = most;
          ready = ready;
          room = room_after;
        })
    at [] e = absurd (grind (arith, chars_nonempty (drop taken text) back, length-drop))
    at (c ∷ cs) s = inr (inl (record {
      beginning = chars (take taken text);
      next = c;
      rest = cs;
      parts = rw (← s, ← chars-append _ (drop taken text) front, take-append-drop) refl;
      appended = grind (arith, chars-append bytes (take taken text) u);
      over = let held = encodes-chars _ (IsUtf8-append bytes (take taken text) u front) in
          grind (arith, beyond, length-append, length-take-le);
    }))
