-- A line of a text, shown with marks under some of its characters.
use Rattle.std.specs.Prelude.{ℕ, suc, Bool, ◌-◌, ◌==◌, nat_lt, nat_le, if◌then◌else◌, List, [], ◌∷◌}
use Rattle.std.specs.Prelude.{◌++◌, length, take, drop, map, replicate, codes, encode_utf8_all}
use Rattle.std.specs.Fmt.{decimal}

-- a line, cut around one of its characters if it is long, with some characters marked: those
-- before the marked ones, the marked ones before that character and from it on, and those after
-- them; and whether the line is cut before these and after them
pub record Excerpt : Type 0 where
  pub cut_before : Bool
  pub before : List ℕ
  pub marked_before : List ℕ
  pub marked : List ℕ
  pub after : List ℕ
  pub cut_after : Bool

-- the most characters of a line that are shown
abbrev pub most_shown : ℕ
most_shown = 120

-- the index of the first character shown, of a line of `count` characters that is cut around one
abbrev pub first_shown : ℕ → ℕ → ℕ
first_shown count around = if nat_le count most_shown then 0 else around - 60

-- the excerpt of a line around one of its characters, with those from `from` up to `to` marked
abbrev pub excerpt_of : List ℕ → (around from to : ℕ) → Excerpt
excerpt_of line around from to =
    let left = first_shown (length line) around in
    let shown = take most_shown (drop left line) in
    let front = take (around - left) shown in
    let back = drop (around - left) shown in
    record {
      cut_before = nat_lt 0 left;
      before = take (from - left) front;
      marked_before = drop (from - left) front;
      marked = take (to - around) back;
      after = drop (to - around) back;
      cut_after = nat_lt most_shown (length line - left);
    }

-- `..` where something is cut off
abbrev pub dots : Bool → List ℕ
dots cut = if cut then codes ".." else []

-- the characters of the line as it is shown
abbrev pub shown_characters : Excerpt → List ℕ
shown_characters e = dots e.cut_before ++ (e.before ++ (e.marked_before ++ (e.marked
    ++ (e.after ++ dots e.cut_after))))

-- the line as it is shown, in bytes
abbrev pub shown_line : Excerpt → List ℕ
shown_line e = dots e.cut_before ++ (encode_utf8_all e.before
    ++ (encode_utf8_all e.marked_before ++ (encode_utf8_all e.marked
    ++ (encode_utf8_all e.after ++ dots e.cut_after))))

-- what stands under a character of a line: a tab under a tab, else this sign
abbrev pub under : (sign : ℕ) → ℕ → ℕ
under sign c = if c == 9 then 9 else sign

-- the sign ` `, under what is not marked
abbrev pub space : ℕ
space = 32

-- the sign `^`, under the character around which a line is cut
abbrev pub mark : ℕ
mark = 94

-- the sign `~`, under the others that are marked
abbrev pub side_mark : ℕ
side_mark = 126

-- what stands under an excerpt: `^` under the character around which the line is cut, `~` under the
-- marked ones before and after it, and spaces under all that is before these
abbrev pub marks_under : Excerpt → List ℕ
marks_under e = map (under space) (dots e.cut_before) ++ (map (under space) e.before
    ++ (map (under side_mark) e.marked_before
    ++ (mark ∷ map (under side_mark) (drop 1 e.marked))))

-- how many characters are before the first `^`
abbrev pub before_mark : List ℕ → ℕ
before_mark [] = 0
before_mark (c ∷ cs) = if c == mark then 0 else suc (before_mark cs)

-- how many characters are before the `^` under an excerpt
abbrev pub before_marks : Excerpt → ℕ
before_marks e = before_mark (marks_under e)

-- spaces as wide as a number
abbrev pub gap : ℕ → List ℕ
gap number = replicate (length (decimal number)) 32

-- an excerpt of the line of this number, with its marks
abbrev pub picture : ℕ → Excerpt → List ℕ
picture number e = gap number ++ (codes " |\n" ++ (decimal number ++ (codes " | "
    ++ (shown_line e ++ (codes "\n" ++ (gap number ++ (codes " | " ++ marks_under e)))))))
