-- The text that lies at a place of another is what is cut from the other there.
use Rattle.std.proofs.Common.{◌≡◌, ℕ, ◌+◌, ◌-◌, ◌<◌, true, false, nat_lt, List, [], ◌∷◌, ◌++◌}
use Rattle.std.proofs.Common.{length, take, drop, arith, refl, ◌∙◌, sym, subst, rules, Some}
use Rattle.std.proofs.Common.{append_assoc, chars, IsUtf8, IsCharBoundary, encode_utf8_all}
use Rattle.std.proofs.Common.{length-append}
use Rattle.std.proofs.lemmas.Str.{IsCharBoundary-at_seam, encodes-chars, encodes-append}
use Rattle.std.proofs.lemmas.Str.{chars-encodes, scalars-chars}
use Rattle.std.proofs.{Math.Utf8.scalars, Math.Seq.take-append_seam, Math.Seq.drop-append_seam}
use Rattle.interpolator_syntax.specs.Places.{size, outermost}
use Rattle.interpolator_syntax.proofs.{CharacterLemmas.length-encodes, LocalityLemmas.stands}
use Rattle.interpolator_pieces.specs.Stored.{may_cut, part, name_part, Within}

at_boundary : (bs : List ℕ) (i : ℕ) → IsCharBoundary bs i → may_cut bs i ≡ true
at_boundary bs i h = search (rules, h.0, h.1)

scalars_both : (xs ys : List ℕ) → scalars (xs ++ ys) ≡ true
    → (scalars xs ≡ true) × (scalars ys ≡ true)
scalars_both [] ys h = (refl, h)
scalars_both (x ∷ xs) ys h = grind (arith, scalars_both xs ys)

cut_out :
    (from to : ℕ) (bs : List ℕ) → nat_lt to from ≡ false → may_cut bs from ≡ true
    → may_cut bs to ≡ true → part bs from to ≡ Some (chars (take (to - from) (drop from bs)))
unfolding part
cut_out from to bs a b c = rw (a, b, c) refl

-- at the place of a text, its own characters are cut
pub part_lies :
    (bs : List ℕ) (p : ℕ) (cs : List ℕ) (to : ℕ) → IsUtf8 bs
    → Within (outermost (chars bs)) (stands p cs) → to ≡ p + size cs → part bs p to ≡ Some cs
part_lies bs p cs to u h t =
    let m = encode_utf8_all h.front in
    let x = encode_utf8_all cs in
    let k = encode_utf8_all h.back in
    let split : bs ≡ m ++ (x ++ k) = grind (arith, encodes-chars bs u, h.split, encodes-append) in
    let good = subst (λ z. scalars z ≡ true) h.split (scalars-chars bs u) in
    let after = scalars_both h.front (cs ++ h.back) good in
    let both = scalars_both cs h.back after.1 in
    let at_m : p ≡ length m = omega (arith, h.place, length-encodes h.front) in
    let at_x : to ≡ length (m ++ x) = omega (arith, t, at_m, length-encodes cs, length-append m x) in
    let same_size : to - p ≡ length x = omega (arith, t, length-encodes cs) in
    let first : IsCharBoundary bs p =
    rw at_m (IsCharBoundary-at_seam bs m (x ++ k) split
    (cs ++ h.back, (after.1, encodes-append cs h.back))) in
    let last : IsCharBoundary bs to =
    rw at_x (IsCharBoundary-at_seam bs (m ++ x) k (split ∙ sym (append_assoc m x k))
    (h.back, (both.1, refl))) in
    let order : nat_lt to p ≡ false = search (rules, t) in
    let cut = cut_out p to bs order (at_boundary bs p first) (at_boundary bs to last) in
    let front = drop-append_seam m (x ++ k) in
    let own = take-append_seam x k in
    grind (arith, cut, chars-encodes cs both.0, front, own)

-- the characters of a name that begins after the byte `place`
pub name_lies :
    (bs : List ℕ) (place p : ℕ) (cs : List ℕ) (to : ℕ) → IsUtf8 bs
    → Within (outermost (chars bs)) (stands p cs) → to ≡ p + size cs → place < p
    → name_part bs place p to ≡ Some cs
name_lies bs place p cs to u h t after =
    let comes_after : nat_lt place p ≡ true = search (rules, after) in
    rw comes_after (part_lies bs p cs to u h t)
