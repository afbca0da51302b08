-- Quoted texts, written run by run.
use Rattle.std.proofs.Common.{◌≡◌, ℕ, ◌<◌, ◌≤◌, ◌+◌, ◌-◌, List, [], ◌∷◌, ◌++◌, length, take, drop}
use Rattle.std.proofs.Common.{get_or, slice_range, refl, arith, append_assoc, append-nil}
use Rattle.std.proofs.Common.{length-append, length-take, length-drop, below_more, Result}
use Rattle.std.proofs.Common.{encode_utf8, encode_utf8_all, take-append-drop, take-take}
use Rattle.std.proofs.Common.{get_or-append-add, get_or-drop, get_or-take, flat_map, chars, IsUtf8}
use Rattle.std.proofs.Common.{IsCharBoundary}
use Rattle.std.proofs.lemmas.Str.{IsCharBoundary-before_ascii, IsCharBoundary-after_ascii}
use Rattle.std.proofs.lemmas.Str.{IsCharBoundary-start, IsUtf8-between, chars-IsAscii, chars-append}
use Rattle.std.proofs.lemmas.Str.{encodes-chars, encode_ascii, IsUtf8-take, IsUtf8-drop, chars-nil}
use Rattle.std.proofs.lemmas.{Bool.cases_lt, Grind.flat_map-append, List.drop-take, List.take_more}
use Rattle.std.proofs.lemmas.{Str.Ascii.IsAscii-cons, Bool.Decides.nat_tests}
use Rattle.interpolator_render.specs.Writers.{Written, Appends, AppendsBeginning, Puts, Writes}
use Rattle.interpolator_render.specs.{declared.text_write.Refusal.Refusal, Quoting.escape_of}
use Rattle.interpolator_render.proofs.LayoutLemmas.{writes_from_puts, stops_in_second, appends_none}
use Rattle.interpolator_render.proofs.LayoutLemmas.{stops_in_first, writes_second}

-- ---- characters that are written as they are

-- every character past ASCII is, if the quote is ASCII
pub escaped_wide : (quote c : ℕ) → quote < 128 → 128 ≤ c → escape_of quote c ≡ c ∷ []
escaped_wide quote c q w = grind (arith, nat_tests)

-- a text is written as it is if its bytes below 128 are
plain_chars : (f : ℕ → List ℕ) (cs : List ℕ) → ((c : ℕ) → 128 ≤ c → f c ≡ c ∷ []) →
    ((k : ℕ) → k < length (encode_utf8_all cs) → f (get_or (encode_utf8_all cs) k 0)
    ≡ get_or (encode_utf8_all cs) k 0 ∷ []) → flat_map f cs ≡ cs
plain_chars f [] wide plain = refl
plain_chars f (c ∷ cs) wide plain =
    let size = length-append (encode_utf8 c) (encode_utf8_all cs) in
    let after = plain_chars f cs wide (λ k h.
    let here = plain (length (encode_utf8 c) + k) (omega arith) in
    rw get_or-append-add at here) in
    grind (arith, cases_lt c 128, encode_ascii c, plain 0)

pub plain_run : (f : ℕ → List ℕ) (run : List ℕ) → ((c : ℕ) → 128 ≤ c → f c ≡ c ∷ []) → IsUtf8 run →
    ((k : ℕ) → k < length run → f (get_or run k 0) ≡ get_or run k 0 ∷ []) →
    flat_map f (chars run) ≡ chars run
plain_run f run wide u plain = grind (arith, plain_chars, encodes-chars)

-- ---- the text up to a place

-- the part from one place to another
pub part_after : (text : List ℕ) (start end : ℕ) → start ≤ end → take end text ≡ take start text
    ++ slice_range text start end
part_after text start end h =
    let front = take-take start end text in
    let back = drop-take start (end - start) text in
    grind (arith, take-append-drop start (take end text))

-- the characters of the text up to a place, and those after
pub split_at : (f : ℕ → List ℕ) (text : List ℕ) (place : ℕ) → IsUtf8 text →
    IsCharBoundary text place →
    flat_map f (chars text) ≡ flat_map f (chars (take place text))
    ++ flat_map f (chars (drop place text))
split_at f text place u b =
    let whole = chars-append (take place text) (drop place text) (IsUtf8-take text place u b) in
    grind (arith, take-append-drop, whole, flat_map-append)

run_plain : (f : ℕ → List ℕ) (text : List ℕ) (start index k : ℕ) → start ≤ index →
    index < length text →
    ((j : ℕ) → start ≤ j → j < index → f (get_or text j 0) ≡ get_or text j 0 ∷ []) →
    k < length (slice_range text start index) →
    f (get_or (slice_range text start index) k 0) ≡ get_or (slice_range text start index) k 0 ∷ []
run_plain f text start index k s l plain h = grind (arith, length-take, get_or-take, get_or-drop)

-- a run of characters that are written as they are, and one ASCII character after it
pub run_more : (f : ℕ → List ℕ) (text : List ℕ) (start index : ℕ) →
    ((c : ℕ) → 128 ≤ c → f c ≡ c ∷ []) → IsUtf8 text → IsCharBoundary text start →
    start ≤ index → index < length text → get_or text index 0 < 128 →
    ((k : ℕ) → start ≤ k → k < index → f (get_or text k 0) ≡ get_or text k 0 ∷ []) →
    flat_map f (chars (take start text))
    ++ (chars (slice_range text start index) ++ f (get_or text index 0))
    ≡ flat_map f (chars (take (index + 1) text))
run_more f text start index wide u b s l ascii plain =
    let run = slice_range text start index in
    let c = get_or text index 0 in
    let valid_run : IsUtf8 run = IsUtf8-between text start index u s b
    (IsCharBoundary-before_ascii text index l ascii) in
    let as_is = plain_run f run wide valid_run
    (λ k h. run_plain f text start index k s l plain h) in
    let alone = chars-IsAscii (c ∷ []) (IsAscii-cons c [] ascii (λ i. omega arith)) in
    let valid = IsUtf8-take text start u b in
    let more = take_more text index 0 l in
    let parts = part_after text start index s in
    grind (arith, append_assoc, chars-append, flat_map-append, append-nil)

-- a run of characters that are written as they are, up to the end of the text
pub run_to_end : (f : ℕ → List ℕ) (text : List ℕ) (start : ℕ) → ((c : ℕ) → 128 ≤ c → f c ≡ c ∷ []) →
    IsUtf8 text → IsCharBoundary text start →
    ((k : ℕ) → start ≤ k → k < length text → f (get_or text k 0) ≡ get_or text k 0 ∷ []) →
    flat_map f (chars (take start text)) ++ chars (drop start text) ≡ flat_map f (chars text)
run_to_end f text start wide u b plain =
    let as_is = plain_run f (drop start text) wide in
    grind (arith, split_at f text start u b, as_is, IsUtf8-drop, length-drop, get_or-drop)

-- ---- what was written

-- the text up to `start` was written, and the bytes from there up to `index` need no escape
pub record Runs (f : ℕ → List ℕ) (text : List ℕ) (start index : ℕ) (before now : Written) : Type 0
  where
    pub below : start ≤ index
    pub boundary : IsCharBoundary text start
    pub plain : (k : ℕ) → start ≤ k → k < index → f (get_or text k 0) ≡ get_or text k 0 ∷ []
    pub written : Appends before (flat_map f (chars (take start text))) now

pub runs_none : (f : ℕ → List ℕ) (text : List ℕ) (before : Written) → IsUtf8 text →
    Runs f text 0 0 before before
runs_none f text before u = grind (arith, IsCharBoundary-start, chars-nil, appends_none)

-- one byte more that needs no escape
pub runs_plain : (f : ℕ → List ℕ) (text : List ℕ) (start index : ℕ) (before now : Written) →
    f (get_or text index 0) ≡ get_or text index 0 ∷ [] →
    Runs f text start index before now → Runs f text start (index + 1) before now
runs_plain f text start index before now here runs = grind (arith, below_more)

-- an ASCII character that does not, written after the run
pub runs_escaped : (f : ℕ → List ℕ) (text : List ℕ) (start index : ℕ) (before now after : Written) →
    ((c : ℕ) → 128 ≤ c → f c ≡ c ∷ []) → IsUtf8 text →
    index < length text → get_or text index 0 < 128 → Runs f text start index before now →
    Appends now (chars (slice_range text start index) ++ f (get_or text index 0)) after →
    Runs f text (index + 1) (index + 1) before after
runs_escaped f text start index before now after wide u l ascii runs p =
    let more = run_more f text start index wide u runs.boundary runs.below l ascii runs.plain in
    grind (arith, IsCharBoundary-after_ascii, append_assoc)

-- or refused there
pub runs_stop : (f : ℕ → List ℕ) (text : List ℕ) (start index : ℕ) (before now after : Written) →
    ((c : ℕ) → 128 ≤ c → f c ≡ c ∷ []) → IsUtf8 text →
    index < length text → get_or text index 0 < 128 → Runs f text start index before now →
    AppendsBeginning now (chars (slice_range text start index) ++ f (get_or text index 0)) after →
    AppendsBeginning before (flat_map f (chars text)) after
runs_stop f text start index before now after wide u l ascii runs p =
    rw (split_at f text (index + 1) u (IsCharBoundary-after_ascii text index u l ascii))
    (rw (← run_more f text start index wide u runs.boundary runs.below l ascii runs.plain)
    (stops_in_first before after _ _ (stops_in_second before now after _ _ runs.written p)))

-- the last run
pub runs_last : (f : ℕ → List ℕ) (text : List ℕ) (start : ℕ) (before now after : Written)
    (answer : Result (Unit {0}) Refusal) → ((c : ℕ) → 128 ≤ c → f c ≡ c ∷ []) →
    IsUtf8 text → Runs f text start (length text) before now →
    Puts now (chars (drop start text)) answer after →
    Writes before (flat_map f (chars text)) answer after
runs_last f text start before now after answer wide u runs p =
    rw (← run_to_end f text start wide u runs.boundary runs.plain)
    (writes_second before now after _ _ answer runs.written (writes_from_puts now after _ answer p))
