-- What an excerpt of a line shows, and where its marks stand.
use Rattle.std.proofs.Common.{◌≡◌, ℕ, ◌<◌, ◌≤◌, ◌+◌, ◌-◌, Bool, false, List, [], ◌∷◌, ◌++◌, length}
use Rattle.std.proofs.Common.{take, drop, refl, ◌∙◌, ap, arith, append_assoc, length-append, map}
use native.Mathlib.Numerals.{unary_clauses}
use Rattle.std.specs.Prelude.{◌==◌}
use Rattle.std.specs.Str.{encode_utf8_all}
use Rattle.std.proofs.Math.Seq.{drop-append_seam, drop-append-add, take-add}
use Rattle.std.proofs.lemmas.List.{take_all, length-map, take-append-drop}
use Rattle.std.proofs.lemmas.List.{drop-drop, drop-take, length-take, take-take}
use Rattle.interpolator.specs.Excerpts.{Excerpt, before_mark, before_marks, dots, excerpt_of}
use Rattle.interpolator.specs.Excerpts.{first_shown, mark, marks_under, most_shown}
use Rattle.interpolator.specs.Excerpts.{shown_characters, shown_line, side_mark, space, under}
use Rattle.std.proofs.lemmas.Str.{encode_ascii, encodes-append}

-- signs are ASCII, and so their bytes
pub signs_bytes : (sign : ℕ) (cs : List ℕ) → sign < 128
    → encode_utf8_all (map (under sign) cs) ≡ map (under sign) cs
signs_bytes sign [] h = refl
signs_bytes sign (c ∷ cs) h =
    rw (encode_ascii (under sign c) (grind arith), signs_bytes sign cs h) refl

-- ---- what an excerpt shows

-- the first characters that are shown, up to the one around which the line is cut
shown_before : (line : List ℕ) (around from to : ℕ) → let e = excerpt_of line around from to in
    let left = first_shown (length line) around in
    e.before ++ e.marked_before ≡ take (around - left) (take most_shown (drop left line))
shown_before line around from to = take-append-drop (from - first_shown (length line) around) _

-- and those from that on
shown_from : (line : List ℕ) (around from to : ℕ) → let e = excerpt_of line around from to in
    let left = first_shown (length line) around in
    e.marked ++ e.after ≡ drop (around - left) (take most_shown (drop left line))
shown_from line around from to = take-append-drop (to - around) _

pub part_of_line : (line : List ℕ) (around from to : ℕ)
    → let e = excerpt_of line around from to in
    e.before ++ (e.marked_before ++ (e.marked ++ e.after))
    ≡ take most_shown (drop (first_shown (length line) around) line)
part_of_line line around from to =
    rw (← append_assoc, shown_before line around from to, shown_from line around from to)
    (take-append-drop (around - first_shown (length line) around) _)

-- what is before and behind a place between the ends of a part
cut_between : (line : List ℕ) (around from to : ℕ) → from ≤ around → around ≤ to
    → drop from (take around line) ++ take (to - around) (drop around line)
    ≡ take (to - from) (drop from line)
cut_between line around from to h k =
    let first = around - from in
    let there : from + first ≡ around = omega (arith, h) in
    let all : to - from ≡ first + (to - around) = omega (arith, h, k) in
    rw (
      all,
      take-add first (to - around) (drop from line),
      drop-drop first from line,
      ← drop-take from first line,
      there,
    ) refl

-- a short line is not cut
not_cut : (count around : ℕ) → count ≤ most_shown → first_shown count around ≡ 0
not_cut count around l = grind arith

pub whole_line : (line : List ℕ) (around from to : ℕ) → length line ≤ most_shown → from ≤ around
    → around ≤ to → let e = excerpt_of line around from to in
    (e.before ≡ take from line)
    × ((e.marked_before ++ e.marked ≡ take (to - from) (drop from line)) × (e.after ≡ drop to line))
whole_line line around from to l h k =
    let sum : around + (to - around) ≡ to = omega arith in
    simp (not_cut (length line) around l, take_all most_shown line l, unary_clauses) (
      take-take from around line h,
      (cut_between line around from to h k, rw (drop-drop, sum) refl),
    )

-- ---- where the marks stand

-- signs other than `^` are before it
signs_before : (sign : ℕ) (xs rest : List ℕ) → (sign == mark) ≡ false
    → before_mark (map (under sign) xs ++ rest) ≡ length xs + before_mark rest
signs_before sign [] rest h = omega arith
signs_before sign (x ∷ xs) rest h = grind (arith, signs_before sign xs rest h)

-- the `^` is behind the characters that come before the one around which the line is cut
before_all : (e : Excerpt)
    → before_marks e ≡ length (dots e.cut_before) + (length e.before + length e.marked_before)
before_all e =
    let last = map (under side_mark) (drop 1 e.marked) in
    let sides = map (under side_mark) e.marked_before ++ (mark ∷ last) in
    omega (
      arith,
      signs_before space (dots e.cut_before) (map (under space) e.before ++ sides) refl,
      signs_before space e.before sides refl,
      signs_before side_mark e.marked_before (mark ∷ last) refl,
    )

-- three lists in front of others
past_three : (n : ℕ) (xs ys zs rest : List ℕ) → n ≡ length xs + (length ys + length zs)
    → drop n (xs ++ (ys ++ (zs ++ rest))) ≡ rest
past_three n xs ys zs rest h =
    rw h (rw (drop-append-add, drop-append-add) (drop-append_seam zs rest))

pub line_under_marks : (e : Excerpt) → drop (before_marks e) (shown_characters e)
    ≡ e.marked ++ (e.after ++ dots e.cut_after)
line_under_marks e = past_three (before_marks e) (dots e.cut_before) e.before e.marked_before
    (e.marked ++ (e.after ++ dots e.cut_after)) (before_all e)

pub marks_from_there : (e : Excerpt) → drop (before_marks e) (marks_under e)
    ≡ mark ∷ map (under side_mark) (drop 1 e.marked)
marks_from_there e =
    past_three (before_marks e) (map (under space) (dots e.cut_before))
    (map (under space) e.before) (map (under side_mark) e.marked_before) _
    (simp length-map (before_all e))

-- the dots have one byte each
dots_bytes : (cut : Bool) → encode_utf8_all (dots cut) ≡ dots cut
unfolding lib.Utf8.encode
dots_bytes cut = grind arith

pub shown_in_characters : (e : Excerpt) → shown_line e ≡ encode_utf8_all (shown_characters e)
shown_in_characters e = simp (encodes-append, dots_bytes)

-- a line is cut no later than at the character around which it is cut, and shown that far
cut_near : (count around : ℕ) → around ≤ count → let left = first_shown count around in
    (left ≤ around) × (around ≤ left + most_shown)
cut_near count around l = grind arith

pub first_marked : (line : List ℕ) (around from to : ℕ) → around ≤ length line
    → let left = first_shown (length line) around in let e = excerpt_of line around from to in
    e.marked ++ e.after ≡ take (left + most_shown - around) (drop around line)
first_marked line around from to l =
    let left = first_shown (length line) around in
    let near = cut_near (length line) around l in
    let all : most_shown ≡ (around - left) + (left + most_shown - around) = omega (arith, near) in
    let there : left + (around - left) ≡ around = omega (arith, near) in
    shown_from line around from to
    ∙ ap (λ n. drop (around - left) (take n (drop left line))) all
    ∙ rw (drop-take, drop-drop, there) refl

-- in a line that is not cut, the mark has the index of the character
pub mark_at : (line : List ℕ) (around from to : ℕ) → length line ≤ most_shown
    → around ≤ length line → before_marks (excerpt_of line around from to) ≡ around
mark_at line around from to l h =
    let e = excerpt_of line around from to in
    let left = not_cut (length line) around l in
    let none : length (dots e.cut_before) ≡ 0 = rw left refl in
    let front : e.before ++ e.marked_before ≡ take around line =
    shown_before line around from to ∙ simp (left, take_all most_shown line l, unary_clauses) in
    let all = simp length-append at (ap length front) in
    omega (arith, before_all e, none, all, length-take around line)

-- the line as it is shown has the part that is shown in one
pub shown_part : (line : List ℕ) (around from to : ℕ) → let e = excerpt_of line around from to in
    shown_line e ≡ dots e.cut_before ++ (encode_utf8_all
    (take most_shown (drop (first_shown (length line) around) line)) ++ dots e.cut_after)
shown_part line around from to =
    let e = excerpt_of line around from to in
    simp (encodes-append, append_assoc) at (ap (λ xs. dots e.cut_before ++ (encode_utf8_all xs
    ++ dots e.cut_after)) (part_of_line line around from to))
