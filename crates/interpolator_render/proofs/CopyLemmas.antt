-- Runs of copies of a character, and what is written of them.
use Rattle.std.proofs.Common.{◌≡◌, ℕ, zero, suc, ◌≤◌, ◌-◌, ◌+◌, ◌*◌, ◌^◌, min, ◌++◌, refl, arith}
use Rattle.std.proofs.Common.{replicate, IsUtf8, chars, encode_utf8_all, slice_range, ◌<◌, List}
use Rattle.std.proofs.Common.{length, take, drop, append_assoc}
use Rattle.std.proofs.lemmas.Str.{IsCharBoundary-at_seam, encodes-append, chars_from_encodes}
use Rattle.std.proofs.lemmas.Str.{IsUtf8-append, IsUtf8-encode, IsUtf8-nil, len_utf8_bounds}
use Rattle.std.proofs.lemmas.Str.{IsUtf8-from_ascii, chars-append, chars-IsAscii}
use Rattle.std.proofs.lemmas.List.{length-replicate, take-replicate, drop-replicate}
use Rattle.std.proofs.lemmas.List.{replicate-append-replicate, take_at}
use Rattle.std.proofs.{Math.Seq.take-append-add, lemmas.Nat.mul-le}
use Rattle.std.specs.{Str.IsCharBoundary, Char.IsScalar, Char.len_utf8}
use Rattle.interpolator_render.specs.Padding.{between_fill}
use Rattle.interpolator_render.specs.Writers.{Written, byte_count, Appends, RefusesLong}
use Rattle.interpolator_render.proofs.LayoutLemmas.{bytes_of_copies, refuses_in_first}
use Rattle.interpolator_render.proofs.LayoutLemmas.{IsAscii-replicate, refuses_in_second}

-- copies of a character are UTF-8
pub IsUtf8-copies : (n c : ℕ) → IsScalar c → IsUtf8 (encode_utf8_all (replicate n c))
IsUtf8-copies zero c s = IsUtf8-nil
IsUtf8-copies (suc n) c s = IsUtf8-append _ _ (IsUtf8-encode c s) (IsUtf8-copies n c s)

pub chars-copies : (n c : ℕ) → IsScalar c →
    chars (encode_utf8_all (replicate n c)) ≡ replicate n c
chars-copies n c s = grind (arith, chars_from_encodes, IsUtf8-copies)

-- a run, cut after the first of its copies
copies_cut : (c count : ℕ) → count ≤ 64 →
    encode_utf8_all (replicate 64 c)
    ≡ encode_utf8_all (replicate count c) ++ encode_utf8_all (replicate (64 - count) c)
copies_cut c count few =
    let all = replicate-append-replicate count (64 - count) c in
    grind (arith, encodes-append (replicate count c), all)

-- the first copies of a run
pub first_copies : (c count : ℕ) → count ≤ 64 →
    slice_range (encode_utf8_all (replicate 64 c)) 0 (count * len_utf8 c)
    ≡ encode_utf8_all (replicate count c)
first_copies c count few = grind (arith, copies_cut c count few, take_at, bytes_of_copies)

-- and it may be cut after them
pub copies_boundary : (c count : ℕ) → IsScalar c → count ≤ 64 →
    IsCharBoundary (encode_utf8_all (replicate 64 c)) (count * len_utf8 c)
copies_boundary c count s few = rw (← bytes_of_copies count c)
    (IsCharBoundary-at_seam (encode_utf8_all (replicate 64 c)) _ _ (copies_cut c count few)
    (IsUtf8-copies _ c s))

-- at most 64 copies have at most 256 bytes
pub few_bytes : (count c : ℕ) → count ≤ 64 → count * len_utf8 c ≤ 256
few_bytes count c few = mul-le count (len_utf8 c) 64 4 few (len_utf8_bounds c).1

-- a piece of a run was written
pub copies_more : (a b d : Written) (count left k c : ℕ) → k ≤ left → left ≤ count →
    Appends a (replicate (count - left) c) b → Appends b (replicate k c) d →
    Appends a (replicate (count - (left - k)) c) d
copies_more a b d count left k c h l p q = grind (arith, append_assoc, replicate-append-replicate)

-- a piece of a run was refused
pub copies_stop : (a b d : Written) (count left k c done taken all : ℕ) → k ≤ left → left ≤ count →
    done ≡ min (byte_count (replicate (count - left) c)) (2 ^ 64 - 1) →
    all ≡ min (done + taken) (2 ^ 64 - 1) →
    Appends a (replicate (count - left) c) b → RefusesLong b (replicate k c) taken d →
    RefusesLong a (replicate count c) all d
copies_stop a b d count left k c done taken all m l n e p q =
    let whole : (replicate (count - left) c ++ replicate k c) ++ replicate (left - k) c
    ≡ replicate count c = grind (arith, replicate-append-replicate) in
    rw (← whole)
    (refuses_in_first a d _ _ all (refuses_in_second a b d _ _ done taken all n e p q))

-- a text over the places of copies
pub around_copies : (fill before : ℕ) (text : List ℕ) → before + length text ≤ 64 →
    (take before (replicate 64 fill) ++ text) ++ drop (before + length text) (replicate 64 fill)
    ≡ replicate before fill ++ (text ++ replicate (64 - (before + length text)) fill)
around_copies fill before text h =
    rw (
      take-replicate before 64 fill (omega arith),
      drop-replicate (before + length text) 64 fill,
      append_assoc,
    ) refl

-- and its first places
block_front : (fill before after : ℕ) (text : List ℕ) → before + length text + after ≤ 64 →
    take (before + length text + after)
    (replicate before fill ++ (text ++ replicate (64 - (before + length text)) fill))
    ≡ between_fill fill before after text
block_front fill before after text h =
    let rest = replicate (64 - (before + length text)) fill in
    let front = take-append-add (replicate before fill) (text ++ rest) (length text + after) in
    let next = take-append-add text rest after in grind (arith, length-replicate, take-replicate)

-- they are a text
pub block_utf8 : (fill before after : ℕ) (text block : List ℕ) → fill < 128 → IsUtf8 text →
    before + length text + after ≤ 64 →
    block ≡ replicate before fill ++ (text ++ replicate (64 - (before + length text)) fill) →
    IsUtf8 (take (before + length text + after) block)
block_utf8 fill before after text block a u h e =
    let copies = λ (n : ℕ). IsUtf8-from_ascii _ (IsAscii-replicate n fill a) in
    rw (e, block_front fill before after text h)
    (IsUtf8-append _ _ (copies before) (IsUtf8-append text _ u (copies after)))

-- with these characters
pub block_chars : (fill before after : ℕ) (text block : List ℕ) → fill < 128 → IsUtf8 text →
    before + length text + after ≤ 64 →
    block ≡ replicate before fill ++ (text ++ replicate (64 - (before + length text)) fill) →
    chars (take (before + length text + after) block)
    ≡ between_fill fill before after (chars text)
block_chars fill before after text block a u h e =
    grind (arith, block_front, chars-append, IsUtf8-from_ascii, chars-IsAscii, IsAscii-replicate)
