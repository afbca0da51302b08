-- Characters that are written as they are, told by their first bytes.
use Rattle.std.proofs.Common.{◌≡◌, ℕ, ◌<◌, ◌≤◌, ◌+◌, ◌-◌, ◌/◌, List, [], ◌∷◌, ◌++◌, length, take}
use Rattle.std.proofs.Common.{drop, get_or, slice_range, refl, arith, subst, ap, ◌∙◌, true, false}
use Rattle.std.proofs.Common.{length-append, length-take, length-drop, encode_utf8_all}
use Rattle.std.proofs.Common.{get_or-append-add, get_or-drop, get_or-take, chars, IsUtf8}
use Rattle.std.proofs.Common.{IsCharBoundary, take-append-drop, append-nil}
use Rattle.std.proofs.lemmas.Str.{encodes-chars, encode_ascii, IsUtf8-take, length-encode}
use Rattle.std.proofs.lemmas.Str.{len_utf8_bounds, chars-append}
use Rattle.std.proofs.{lemmas.Bool.cases_lt, lemmas.Bool.Decides.nat_tests}
use Rattle.std.specs.Char.{encode_utf8}
use Rattle.interpolator_escapes.specs.Escapes.{escape_of, escaped, is_control}
use Rattle.interpolator_escapes.specs.Search.{may_begin_escaped, ArePlain}
use Rattle.interpolator_escapes.specs.declared.escape.Escape.{Escape}
use Rattle.interpolator_escapes.specs.declared.escape.Escape.TheVariants.{Line, Html, Csv, Json}
use Rattle.interpolator_escapes.specs.declared.escape.Escape.TheVariants.{Shell}

-- ---- first bytes

ascii_first : (c : ℕ) (bytes : List ℕ) → c < 128 → get_or (encode_utf8 c ++ bytes) 0 0 ≡ c
ascii_first c bytes low = grind (arith, encode_ascii)

two_bytes : (c : ℕ) (bytes : List ℕ) → 128 ≤ c → c < 2048
    → get_or (encode_utf8 c ++ bytes) 0 0 ≡ 192 + c / 64
unfolding encode_utf8
two_bytes c bytes low high = grind (arith, nat_tests)

three_bytes : (c : ℕ) (bytes : List ℕ) → 2048 ≤ c → c < 65536
    → get_or (encode_utf8 c ++ bytes) 0 0 ≡ 224 + c / 4096
unfolding encode_utf8
three_bytes c bytes low high = grind (arith, nat_tests)

-- ---- characters that are escaped

-- past ASCII only controls of a line are
wide_line : (c : ℕ) → 128 ≤ c → is_control c ≡ false → escape_of Line c ≡ c ∷ []
wide_line c low h = grind (arith, nat_tests)

-- they begin with one of three bytes
wide_control : (c : ℕ) (bytes : List ℕ) → 128 ≤ c
    → may_begin_escaped Line (get_or (encode_utf8 c ++ bytes) 0 0) ≡ false → is_control c ≡ false
wide_control c bytes low h =
    grind (
      arith,
      nat_tests,
      cases_lt c 2048,
      cases_lt c 65536,
      two_bytes c bytes,
      three_bytes c bytes,
    )

wide_plain : (escape : Escape) (c : ℕ) (bytes : List ℕ) → 128 ≤ c
    → may_begin_escaped escape (get_or (encode_utf8 c ++ bytes) 0 0) ≡ false
    → escape_of escape c ≡ c ∷ []
wide_plain Line c bytes low h = wide_line c low (wide_control c bytes low h)
wide_plain Html c bytes low h = grind (arith, nat_tests)
wide_plain Csv c bytes low h = grind (arith, nat_tests)
wide_plain Json c bytes low h = grind (arith, nat_tests)
wide_plain Shell c bytes low h = grind (arith, nat_tests)

ascii_plain : (escape : Escape) (c : ℕ) → c < 128 → may_begin_escaped escape c ≡ false
    → escape_of escape c ≡ c ∷ []
ascii_plain Line c low h = grind (arith, nat_tests)
ascii_plain Html c low h = grind (arith, nat_tests)
ascii_plain Csv c low h = grind (arith, nat_tests)
ascii_plain Json c low h = grind (arith, nat_tests)
ascii_plain Shell c low h = grind (arith, nat_tests)

-- a character is written as it is, if none that is escaped begins with its first byte
begins_plain : (escape : Escape) (c : ℕ) (bytes : List ℕ)
    → may_begin_escaped escape (get_or (encode_utf8 c ++ bytes) 0 0) ≡ false
    → escape_of escape c ≡ c ∷ []
begins_plain escape c bytes h =
    grind (
      arith,
      cases_lt c 128,
      ascii_first c bytes,
      ascii_plain escape c,
      wide_plain escape c bytes,
    )

-- so is a text of such characters
plain_chars : (escape : Escape) (cs : List ℕ)
    → ArePlain escape (encode_utf8_all cs) (length (encode_utf8_all cs)) → escaped escape cs ≡ cs
plain_chars escape [] plain = refl
plain_chars escape (c ∷ cs) plain =
    let size = length-append (encode_utf8 c) (encode_utf8_all cs) in
    let after = plain_chars escape cs (λ k h.
    let here = plain (length (encode_utf8 c) + k) (omega arith) in
    rw get_or-append-add at here) in
    let some : 0 < length (encode_utf8 c) = grind (arith, length-encode, len_utf8_bounds) in
    rw (begins_plain escape c (encode_utf8_all cs) (plain 0 (omega arith)), after) refl

pub plain_text : (escape : Escape) (bytes : List ℕ) → IsUtf8 bytes
    → ArePlain escape bytes (length bytes) → escaped escape (chars bytes) ≡ chars bytes
plain_text escape bytes u plain =
    grind (arith, plain_chars escape (chars bytes), encodes-chars bytes)

-- ---- blocks

block_length : (bytes : List ℕ) (end size : ℕ) → end + size ≤ length bytes
    → length (slice_range bytes end (end + size)) ≡ size
block_length bytes end size h = grind (arith, length-take, length-drop)

block_place : (bytes : List ℕ) (end size j : ℕ) → end + size ≤ length bytes → j < size
    → get_or (slice_range bytes end (end + size)) j 0 ≡ get_or bytes (end + j) 0
block_place bytes end size j h l = grind (arith, get_or-take, get_or-drop, length-take, length-drop)

plain_past : (escape : Escape) (bytes : List ℕ) (end size k : ℕ) → end + size ≤ length bytes
    → ArePlain escape (slice_range bytes end (end + size))
    (length (slice_range bytes end (end + size)))
    → end ≤ k → k < end + size → may_begin_escaped escape (get_or bytes k 0) ≡ false
plain_past escape bytes end size k h b s l =
    let long = block_length bytes end size h in
    let place = block_place bytes end size (k - end) h (omega arith)
    ∙ ap (λ (j : ℕ). get_or bytes j 0) (omega arith) in
    subst (λ (x : ℕ). may_begin_escaped escape x ≡ false) place (b (k - end) (omega (arith, long)))

-- one more block
pub plain_more : (escape : Escape) (bytes : List ℕ) (end size : ℕ) → end + size ≤ length bytes
    → ArePlain escape bytes end
    → ArePlain escape (slice_range bytes end (end + size))
    (length (slice_range bytes end (end + size)))
    → ArePlain escape bytes (end + size)
plain_more escape bytes end size h p b k l =
    let before = λ (s : k < end). p k s in
    let after = λ (s : end ≤ k). plain_past escape bytes end size k h b s l in
    grind (arith, cases_lt k end, before, after)

-- ---- the front

-- the text may be cut where a character that is escaped may begin
pub front_boundary : (escape : Escape) (bytes : List ℕ) (n : ℕ) → n ≤ length bytes
    → (n < length bytes → may_begin_escaped escape (get_or bytes n 0) ≡ true)
    → IsCharBoundary bytes n
front_boundary Line bytes n w h = grind (arith, nat_tests)
front_boundary Html bytes n w h = grind (arith, nat_tests)
front_boundary Csv bytes n w h = grind (arith, nat_tests)
front_boundary Json bytes n w h = grind (arith, nat_tests)
front_boundary Shell bytes n w h = grind (arith, nat_tests)

taken : (bytes : List ℕ) (n k : ℕ) → k < length (take n bytes)
    → get_or (take n bytes) k 0 ≡ get_or bytes k 0
taken bytes n k h = grind (arith, get_or-take, length-take)

below_taken : (bytes : List ℕ) (n k : ℕ) → k < length (take n bytes) → k < n
below_taken bytes n k h = grind (arith, length-take)

-- in the front no character is escaped
pub front_plain : (escape : Escape) (bytes : List ℕ) (n : ℕ) → IsUtf8 bytes → IsCharBoundary bytes n
    → ArePlain escape bytes n → escaped escape (chars (take n bytes)) ≡ chars (take n bytes)
front_plain escape bytes n u b plain =
    plain_text escape (take n bytes) (IsUtf8-take bytes n u b)
    (λ k h. rw (taken bytes n k h) (plain k (below_taken bytes n k h)))

-- the characters of the front and those after it
front_chars : (text front back : List ℕ) (n : ℕ) → IsUtf8 text → IsCharBoundary text n
    → front ≡ take n text → back ≡ drop n text → chars text ≡ chars front ++ chars back
front_chars text front back n u b f r =
    let whole = chars-append (take n text) (drop n text) (IsUtf8-take text n u b) in
    grind (arith, take-append-drop n text, whole)

pub found_parts : (escape : Escape) (text front back after : List ℕ) (n c : ℕ) → IsUtf8 text
    → IsCharBoundary text n → ArePlain escape text n → front ≡ take n text → back ≡ drop n text
    → chars back ≡ c ∷ chars after
    → (chars text ≡ chars front ++ c ∷ chars after) × (escaped escape (chars front) ≡ chars front)
found_parts escape text front back after n c u b plain f r e = (
  grind (arith, front_chars text front back n u b f r),
  rw f (front_plain escape text n u b plain),
)

pub found_none : (escape : Escape) (text front back : List ℕ) (n : ℕ) → IsUtf8 text
    → IsCharBoundary text n → ArePlain escape text n → front ≡ take n text → back ≡ drop n text
    → chars back ≡ [] → escaped escape (chars text) ≡ chars text
found_none escape text front back n u b plain f r e =
    let whole = front_chars text front back n u b f r in
    let same : chars text ≡ chars front = grind (arith, whole, append-nil) in
    rw (same, f) (front_plain escape text n u b plain)
