-- What is written for each character of a value, by the place where it is shown.
use Rattle.std.specs.Prelude.{ℕ, ◌+◌, ◌-◌, ◌/◌, ◌%◌, List, [], ◌∷◌, ◌++◌, codes, ◌==◌, ◌||◌, ◌&&◌}
use Rattle.std.specs.Prelude.{nat_lt, not, if◌then◌else◌, Bool}
use Rattle.std.specs.List.{flat_map}
use Rattle.interpolator_escapes.specs.declared.escape.Escape.{Escape}
use Rattle.interpolator_escapes.specs.declared.escape.Escape.TheVariants.{Line, Html, Csv, Json}
use Rattle.interpolator_escapes.specs.declared.escape.Escape.TheVariants.{Shell}

-- the digit of a number below 16, in base sixteen
abbrev pub hex_digit : ℕ → ℕ
hex_digit n = if nat_lt n 10 then 48 + n else 97 + (n - 10)

-- its last two digits in base sixteen
abbrev pub two_digits : ℕ → List ℕ
two_digits n = hex_digit (n / 16 % 16) ∷ hex_digit (n % 16) ∷ []

-- its last four digits in base sixteen
abbrev pub four_digits : ℕ → List ℕ
four_digits n = two_digits (n / 256) ++ two_digits n

-- a number is one of those from `first` up to `last`
abbrev pub is_between : (first last : ℕ) → ℕ → Bool
is_between first last n = nat_lt n (last + 1) && not (nat_lt n first)

-- a control of ASCII, one from U+0080 to U+009F, a separator of lines or paragraphs, or a mark of
-- direction: U+061C, U+200E, U+200F, U+202A to U+202E, U+2066 to U+2069
abbrev pub is_control : ℕ → Bool
is_control c =
    nat_lt c 32 || is_between 127 159 c || (c == 1564) || is_between 8206 8207 c
    || is_between 8232 8238 c || is_between 8294 8297 c

-- a control, by its code: `\x` and two digits, or `\u` and four
abbrev pub control_escape : ℕ → List ℕ
control_escape c =
    if nat_lt c 256 then 92 ∷ 120 ∷ two_digits c else 92 ∷ 117 ∷ four_digits c

-- `\\`, `\n`, `\r`, `\t`; any other control by its code
abbrev pub line_escape : ℕ → List ℕ
line_escape c =
    if c == 92 then 92 ∷ 92 ∷ [] else
    (if c == 10 then 92 ∷ 110 ∷ [] else
    (if c == 13 then 92 ∷ 114 ∷ [] else
    (if c == 9 then 92 ∷ 116 ∷ [] else
    (if is_control c then control_escape c else c ∷ []))))

-- `&amp;`, `&lt;`, `&gt;`, `&quot;`, `&#39;`
abbrev pub html_escape : ℕ → List ℕ
html_escape c =
    if c == 38 then codes "&amp;" else
    (if c == 60 then codes "&lt;" else
    (if c == 62 then codes "&gt;" else
    (if c == 34 then codes "&quot;" else
    (if c == 39 then codes "&#39;" else c ∷ []))))

-- `""`
abbrev pub csv_escape : ℕ → List ℕ
csv_escape c = if c == 34 then 34 ∷ 34 ∷ [] else c ∷ []

-- `\\`, `\"`, `\n`, `\r`, `\t`; any other control below U+0020, and `<`, as `\u` and four digits
abbrev pub json_escape : ℕ → List ℕ
json_escape c =
    if c == 92 then 92 ∷ 92 ∷ [] else
    (if c == 34 then 92 ∷ 34 ∷ [] else
    (if c == 10 then 92 ∷ 110 ∷ [] else
    (if c == 13 then 92 ∷ 114 ∷ [] else
    (if c == 9 then 92 ∷ 116 ∷ [] else
    (if nat_lt c 32 || (c == 60) then 92 ∷ 117 ∷ four_digits c else c ∷ [])))))

-- `'\''`
abbrev pub shell_escape : ℕ → List ℕ
shell_escape c = if c == 39 then 39 ∷ 92 ∷ 39 ∷ 39 ∷ [] else c ∷ []

-- a character, as this escape writes it
abbrev pub escape_of : Escape → ℕ → List ℕ
escape_of Line = line_escape
escape_of Html = html_escape
escape_of Csv = csv_escape
escape_of Json = json_escape
escape_of Shell = shell_escape

-- a text, escaped
abbrev pub escaped : Escape → List ℕ → List ℕ
escaped escape text = flat_map (escape_of escape) text
