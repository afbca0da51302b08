-- Texts in a room, laid one after another, and what is written of them.
use Rattle.std.proofs.Common.{◌≡◌, ℕ, ◌+◌, ◌≤◌, ◌<◌, List, [], ◌∷◌, ◌++◌, length, take, drop, arith}
use Rattle.std.proofs.Common.{refl, sym, ap, ◌∙◌, subst, chars, IsUtf8, IsCharBoundary}
use Rattle.std.proofs.Common.{append_assoc, append-nil, take-append-drop, Result, Err, encode_utf8}
use Rattle.std.proofs.Common.{encode_utf8_all, inl, inr, true}
use Rattle.std.proofs.lemmas.List.{length-take-le, take-append-le, take-take, nil_from_length}
use Rattle.std.proofs.lemmas.Str.{chars-append, IsUtf8-append, IsUtf8-take, chars-nil}
use Rattle.std.proofs.lemmas.Str.{IsCharBoundary-at_seam, IsUtf8-past_char, length-encode}
use Rattle.std.proofs.lemmas.Str.{len_utf8_bounds}
use Rattle.std.proofs.{Math.Seq.take-append-add, lemmas.Grind.flat_map-append, lemmas.Bool.cases_lt}
use Rattle.interpolator_render.specs.declared.text_write.Refusal.{Refusal}
use Rattle.interpolator_render.specs.Writers.{Written, Appends, AppendsBeginning, Writes, Puts}
use Rattle.interpolator_render.specs.Writers.{byte_count}
use Rattle.interpolator_render.proofs.LayoutLemmas.{byte_count-chars, writes_second, appends_none}
use Rattle.interpolator_render.proofs.LayoutLemmas.{writes_from_puts, stops_in_first}
use Rattle.interpolator_render.proofs.LayoutLemmas.{byte_count-append}
use lib.Utf8.{scalars}
use Rattle.interpolator_escapes.specs.{Escapes.escape_of, Escapes.escaped, Rooms.HoldsText}
use Rattle.interpolator_escapes.specs.{Rooms.Moves, declared.escape.Escape.Escape}
use Rattle.interpolator_escapes.proofs.MarkLemmas.{IsFront, near_plain, near_whole, front_stops}
use Rattle.interpolator_escapes.proofs.SearchLemmas.{front_plain, front_boundary}

-- ---- the row of a room

-- how many bytes its text has
pub held_size : (row : List ℕ) (filled : ℕ) → length row ≡ 320 → HoldsText row filled
    → byte_count (chars (take filled row)) ≡ filled
held_size row filled long held =
    byte_count-chars (take filled row) held.utf8
    ∙ length-take-le filled row (omega (arith, held.within))

-- a text more
pub holds_more : (row after text : List ℕ) (filled end : ℕ) → HoldsText row filled → IsUtf8 text
    → take end after ≡ take filled row ++ text → end ≤ 320 → HoldsText after end
holds_more row after text filled end held utf8 front fits = record {
  within = fits;
  utf8 = subst IsUtf8 (sym front) (IsUtf8-append _ _ held.utf8 utf8);
}

pub laid_text : (row after text : List ℕ) (filled end : ℕ) → HoldsText row filled
    → take end after ≡ take filled row ++ text
    → chars (take end after) ≡ chars (take filled row) ++ chars text
laid_text row after text filled end held front =
    ap chars front ∙ chars-append (take filled row) text held.utf8

-- the front of a block that was copied whole
pub front_laid : (row after text rest : List ℕ) (filled count : ℕ) → length row ≡ 320
    → filled ≤ 320 → 16 ≤ length text → count ≤ 16
    → after ≡ take filled row ++ take 16 text ++ rest
    → take (filled + count) after ≡ take filled row ++ take count text
front_laid row after text rest filled count long within block few e =
    let size = length-take-le filled row (omega (arith, within, long)) in
    let some = length-take-le 16 text block in
    ap (λ (l : List ℕ). take (filled + count) l) (e ∙ append_assoc (take filled row) (take 16 text) rest)
    ∙ ap (λ (n : ℕ). take (n + count) (take filled row ++ (take 16 text ++ rest))) (sym size)
    ∙ take-append-add (take filled row) (take 16 text ++ rest) count
    ∙ ap (λ (l : List ℕ). take filled row ++ l)
    (take-append-le count (take 16 text) rest (omega (arith, some, few)) ∙ shorter)
  where
    shorter : take count (take 16 text) ≡ take count text
    shorter = take-take count 16 text few

-- ---- what was laid, and what is left

-- a plain front was laid
pub run_laid : (escape : Escape) (text laid now : List ℕ) (count : ℕ) → IsUtf8 text
    → IsCharBoundary text count
    → escaped escape (chars (take count text)) ≡ chars (take count text)
    → now ≡ laid ++ chars (take count text)
    → now ++ escaped escape (chars (drop count text)) ≡ laid ++ escaped escape (chars text)
run_laid escape text laid now count utf8 cut plain e = by (chars (take count text)) refl
  where
    by : (front : List ℕ) → chars (take count text) ≡ front
        → now ++ escaped escape (chars (drop count text)) ≡ laid ++ escaped escape (chars text)
    by front f =
        let whole = chars-append (take count text) (drop count text)
        (IsUtf8-take text count utf8 cut) in
        let parts = take-append-drop count text in
        grind (arith, flat_map-append, append_assoc)

-- a text's bytes more
pub grown : (old now text : List ℕ) → IsUtf8 text → now ≡ old ++ chars text
    → byte_count now ≡ byte_count old + length text
grown old now text utf8 e =
    ap byte_count e ∙ byte_count-append old (chars text)
    ∙ ap (λ (n : ℕ). byte_count old + n) (byte_count-chars text utf8)

-- ---- from the room to the writer

-- what writes the text of the room and the escaped rest writes the whole
abbrev pub LaysOn : Escape → List ℕ → List ℕ → List ℕ → Written → Written → Type 0
LaysOn escape whole laid rest before now =
    (answer : Result (Unit {0}) Refusal) (last : Written)
    → Writes now (laid ++ escaped escape (chars rest)) answer last
    → Writes before whole answer last

-- a step, and a part of the room's text written
pub lays_more : (escape : Escape) (whole laid rest more next left : List ℕ)
    (before now then : Written)
    → LaysOn escape whole laid rest before now
    → more ++ escaped escape (chars next) ≡ laid ++ escaped escape (chars rest)
    → Moves now more left then → LaysOn escape whole left next before then
lays_more escape whole laid rest more next left before now then on same moves answer last p =
    on answer last (subst (λ (t : List ℕ). Writes now t answer last)
    (sym (append_assoc moves.moved left (escaped escape (chars next)))
    ∙ ap (λ (t : List ℕ). t ++ escaped escape (chars next)) (sym moves.parts) ∙ same)
    (writes_second now then last moves.moved (left ++ escaped escape (chars next)) answer
    moves.appended p))

-- a refusal after a step
pub lays_none : (escape : Escape) (whole laid rest more next : List ℕ)
    (before now then : Written) (refusal : Refusal)
    → LaysOn escape whole laid rest before now
    → more ++ escaped escape (chars next) ≡ laid ++ escaped escape (chars rest)
    → AppendsBeginning now more then → AppendsBeginning before whole then
lays_none escape whole laid rest more next before now then refusal on same stops =
    on (Err refusal) then (subst (λ (t : List ℕ). AppendsBeginning now t then) same
    (stops_in_first now then more (escaped escape (chars next)) stops))

-- nothing is left
pub lays_last : (escape : Escape) (whole laid rest : List ℕ) (before now last : Written)
    (answer : Result (Unit {0}) Refusal) → LaysOn escape whole laid rest before now
    → length rest ≡ 0 → Puts now laid answer last → Writes before whole answer last
lays_last escape whole laid rest before now last answer on none p =
    on answer last (subst (λ (t : List ℕ). Writes now t answer last) (sym (ended none))
    (writes_from_puts now last laid answer p))
  where
    ended : length rest ≡ 0 → laid ++ escaped escape (chars rest) ≡ laid
    ended e = rw (nil_from_length rest e, chars-nil) (append-nil laid)

-- a room that has place for a step has nothing to write
pub moves_none : (old : Written) (text : List ℕ) → Moves old text text old
moves_none old text = record { moved = []; parts = refl; appended = appends_none old }

pub moves_all : (old new : Written) (text : List ℕ) → Appends old text new → Moves old text [] new
moves_all old new text w = record
    { moved = text; parts = sym (append-nil text); appended = w }

pub ruleset moves = (moves_none, moves_all)

-- a block has a boundary in it
pub boundary_in_block : (text : List ℕ) (cut : ℕ) → IsUtf8 text → 16 ≤ length text
    → ((i : ℕ) → cut < i → i ≤ 16 → ¬ (IsCharBoundary text i)) → 0 < cut
boundary_in_block text cut utf8 long none = elim (cases_lt 0 cut) [
  | inl some ↦ some
  | inr zero ↦ absurd (by utf8.0 utf8.1.0 utf8.1.1 (omega arith))
]
  where
    by : (cs : List ℕ) → scalars cs ≡ true → encode_utf8_all cs ≡ text → cut ≡ 0 → ⊥
    by [] s e z = absurd (omega (arith, ap length e))
    by (c ∷ cs) s e z =
        let size = length-encode c in
        let bounds = len_utf8_bounds c in
        let after = IsUtf8-past_char text (encode_utf8_all cs) c utf8 (sym e) in
        none (length (encode_utf8 c)) (omega arith) (omega arith)
        (IsCharBoundary-at_seam text (encode_utf8 c) (encode_utf8_all cs) (sym e) after)

-- ---- a block's front

-- up to its first mark
pub cut_at_mark : (escape : Escape) (bytes text : List ℕ) (front : ℕ) → bytes ≡ text
    → 16 ≤ length text → IsFront escape bytes 0 front → front < 16 → IsCharBoundary text front
cut_at_mark escape bytes text front e long counted less =
    front_boundary escape text front (omega (arith, long, less))
    (λ some. front_stops escape text front long
    (subst (λ (l : List ℕ). IsFront escape l 0 front) e counted) less)

pub plain_to_mark : (escape : Escape) (bytes text : List ℕ) (front : ℕ) → bytes ≡ text
    → IsUtf8 text → 16 ≤ length text → IsFront escape bytes 0 front → front < 16
    → escaped escape (chars (take front text)) ≡ chars (take front text)
plain_to_mark escape bytes text front e utf8 long counted less =
    front_plain escape text front utf8 (cut_at_mark escape bytes text front e long counted less)
    (near_plain escape text front long
    (subst (λ (l : List ℕ). IsFront escape l 0 front) e counted))

-- and if it has none
pub plain_block : (escape : Escape) (bytes text : List ℕ) (front cut : ℕ) → bytes ≡ text
    → IsUtf8 text → 16 ≤ length text → IsFront escape bytes 0 front → 16 ≤ front → cut ≤ 16
    → IsCharBoundary text cut
    → escaped escape (chars (take cut text)) ≡ chars (take cut text)
plain_block escape bytes text front cut e utf8 long counted full few at =
    front_plain escape text cut utf8 at
    (λ k less. near_whole escape text front long
    (subst (λ (l : List ℕ). IsFront escape l 0 front) e counted) full k
    (omega (arith, less, few)))

-- ---- the whole text

-- a plain front, a character after it, and what comes then
pub found_whole : (escape : Escape) (text run after : List ℕ) (c : ℕ)
    → chars text ≡ chars run ++ c ∷ chars after → escaped escape (chars run) ≡ chars run
    → escaped escape (chars text)
    ≡ chars run ++ (escape_of escape c ++ escaped escape (chars after))
found_whole escape text run after c e plain =
    rw (e, flat_map-append (escape_of escape) (chars run) (c ∷ chars after), plain) refl
