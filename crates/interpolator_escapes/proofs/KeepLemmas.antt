-- Each escape keeps the places of its reader.
use Rattle.std.proofs.Common.{◌≡◌, ℕ, true, false, List, [], ◌∷◌, refl, arith, ◌<◌, ◌/◌, ◌%◌, ◌*◌}
use Rattle.std.proofs.Common.{◌+◌, ◌==◌, ◌||◌, nat_lt, if◌then◌else◌, Bool, filter, flat_map, ◌∙◌}
use Rattle.std.proofs.Common.{◌++◌, ap}
use Rattle.std.proofs.{lemmas.Bool.Decides.nat_tests, lemmas.List.Elements.filter-append}
use Rattle.std.proofs.lemmas.Str.{digit_value-digit_char}
use Rattle.std.specs.Char.{digit_value, digit_char}
use Rattle.interpolator_escapes.specs.Escapes.{hex_digit, two_digits, four_digits, is_control}
use Rattle.interpolator_escapes.specs.Escapes.{line_escape, control_escape, html_escape, csv_escape}
use Rattle.interpolator_escapes.specs.Escapes.{json_escape, shell_escape}
use Rattle.interpolator_escapes.specs.Readers.{KeepsPlaces, KeepsPlain, state_after, read, content}
use Rattle.interpolator_escapes.specs.Readers.{Token, structure_of}
use Rattle.interpolator_escapes.specs.Lines.{control_step, line_step, is_line_place, in_line}
use Rattle.interpolator_escapes.specs.Lines.{after_slash, in_code, code_step}
use Rattle.interpolator_escapes.specs.Html.{html_step, is_html_place, in_base, in_text, in_value}
use Rattle.interpolator_escapes.specs.Html.{double, single, plain, read_again, address, opened}
use Rattle.interpolator_escapes.specs.Html.{in_reference, closing, marked, marked_dash, declared}
use Rattle.interpolator_escapes.specs.Html.{comment, comment_dash, comment_dashes, named, spaced}
use Rattle.interpolator_escapes.specs.Html.{in_name, after_name, before_value, in_bare_value}
use Rattle.interpolator_escapes.specs.Html.{in_raw, raw_opened, raw_closing, lost}
use Rattle.interpolator_escapes.specs.Json.{JsonState, json_step, is_json_place, between, in_string}
use Rattle.interpolator_escapes.specs.Json.{after_slash as json_slash, in_code as json_code}
use Rattle.interpolator_escapes.specs.Json.{code_step as json_code_step}
use Rattle.interpolator_escapes.specs.{Plain.is_plain, Formats.Stays, Csv.csv_step}
use Rattle.interpolator_escapes.specs.{Csv.is_csv_place, Csv.field_start, Csv.bare, Csv.quoted}
use Rattle.interpolator_escapes.specs.{Csv.quote_seen, Shell.shell_step, Shell.is_shell_place}
use Rattle.interpolator_escapes.specs.{Shell.outside, Shell.single_quoted as shell_quoted}
use Rattle.interpolator_escapes.specs.{Shell.elsewhere, Shell.after_slash as shell_slash}

-- a digit is no control, and reads as its number
pub digit_read : (n : ℕ) → n < 16
    → (digit_value (hex_digit n) ≡ n) × (is_control (hex_digit n) ≡ false)
digit_read n h =
    let same : hex_digit n ≡ digit_char n = grind (arith, nat_tests) in
    (rw same (digit_value-digit_char n (omega (arith, h))), grind (arith, nat_tests))

digit_below : (n : ℕ) → n % 16 < 16
digit_below n = omega arith

two_make : (c : ℕ) → c < 256 → (0 * 16 + c / 16 % 16) * 16 + c % 16 ≡ c
two_make c h = omega (arith, h)

four_make : (c : ℕ) → c < 65536
    → (((0 * 16 + c / 256 / 16 % 16) * 16 + c / 256 % 16) * 16 + c / 16 % 16) * 16 + c % 16 ≡ c
four_make c h = omega (arith, h)

control_below : (c : ℕ) → is_control c ≡ true → c < 65536
control_below c h = grind (arith, nat_tests)

-- ---- codes

line_digit : (left n d : ℕ) → d < 16
    → line_step (in_code left n) (hex_digit d) ≡ code_step left (n * 16 + d)
line_digit left n d h = rw ((digit_read d h).1, (digit_read d h).0) refl

-- a code is read as its number
abbrev LineReads : List ℕ → ℕ → Type 0
LineReads cs c =
    (state_after line_step in_line cs ≡ in_line) × (read line_step in_line cs ≡ content c ∷ [])

line_two : (c : ℕ) → c < 256 → LineReads (92 ∷ 120 ∷ two_digits c) c
line_two c h =
    let first = line_digit 2 0 (c / 16 % 16) (digit_below (c / 16)) in
    let second = line_digit 1 (0 * 16 + c / 16 % 16) (c % 16) (digit_below c) in
    grind (arith, first, second, two_make c h)

line_four : (c : ℕ) → c < 65536 → LineReads (92 ∷ 117 ∷ four_digits c) c
line_four c h =
    let first = line_digit 4 0 (c / 256 / 16 % 16) (digit_below (c / 256 / 16)) in
    let second =
    line_digit 3 (0 * 16 + c / 256 / 16 % 16) (c / 256 % 16) (digit_below (c / 256)) in
    let third =
    line_digit 2 ((0 * 16 + c / 256 / 16 % 16) * 16 + c / 256 % 16) (c / 16 % 16)
    (digit_below (c / 16)) in
    let fourth =
    line_digit 1 (((0 * 16 + c / 256 / 16 % 16) * 16 + c / 256 % 16) * 16 + c / 16 % 16) (c % 16)
    (digit_below c) in
    grind (arith, first, second, third, fourth, four_make c h)

-- a choice of texts has what both have
pub choose : (P : List ℕ → Type 0) (b : Bool) (xs ys : List ℕ) → (b ≡ true → P xs)
    → (b ≡ false → P ys) → P (if b then xs else ys)
choose P true xs ys x y = x refl
choose P false xs ys x y = y refl

line_control : (c : ℕ) → is_control c ≡ true → LineReads (control_escape c) c
line_control c h =
    choose (λ cs. LineReads cs c) (nat_lt c 256) _ _
    (λ low. line_two c (grind (arith, nat_tests)))
    (λ high. line_four c (control_below c h))

line_other : (c : ℕ) → (c == 92) ≡ false
    → LineReads (if is_control c then control_escape c else c ∷ []) c
line_other c h =
    choose (λ cs. LineReads cs c) (is_control c) _ _ (line_control c)
    (λ low. grind arith)

pub line_keeps : KeepsPlaces line_step is_line_place line_escape
line_keeps in_line c h =
    choose (λ cs. LineReads cs c) (c == 92) _ _ (λ e. grind (arith, nat_tests))
    (λ n. choose (λ cs. LineReads cs c) (c == 10) _ _ (λ e. grind (arith, nat_tests))
    (λ n'. choose (λ cs. LineReads cs c) (c == 13) _ _ (λ e. grind (arith, nat_tests))
    (λ n''. choose (λ cs. LineReads cs c) (c == 9) _ _ (λ e. grind (arith, nat_tests))
    (λ n3. line_other c n))))
line_keeps after_slash c h = absurd (cc)
line_keeps (in_code left n) c h = absurd (cc)

pub line_plain : KeepsPlain line_step is_line_place line_escape
line_plain s c h p = line_keeps s c h

pub csv_keeps : KeepsPlaces csv_step is_csv_place csv_escape
csv_keeps quoted c h = grind (arith, nat_tests)
csv_keeps field_start c h = absurd (cc)
csv_keeps bare c h = absurd (cc)
csv_keeps quote_seen c h = absurd (cc)

pub csv_plain : KeepsPlain csv_step is_csv_place csv_escape
csv_plain s c h p = csv_keeps s c h

json_digit : (left n d : ℕ) → d < 16
    → json_step (json_code left n) (hex_digit d) ≡ json_code_step left (n * 16 + d)
json_digit left n d h = rw (digit_read d h).0 refl

abbrev JsonReads : List ℕ → ℕ → Type 0
JsonReads cs c =
    (state_after json_step in_string cs ≡ in_string)
    × (read json_step in_string cs ≡ content c ∷ [])

json_four : (c : ℕ) → c < 65536 → JsonReads (92 ∷ 117 ∷ four_digits c) c
json_four c h =
    let first = json_digit 4 0 (c / 256 / 16 % 16) (digit_below (c / 256 / 16)) in
    let second =
    json_digit 3 (0 * 16 + c / 256 / 16 % 16) (c / 256 % 16) (digit_below (c / 256)) in
    let third =
    json_digit 2 ((0 * 16 + c / 256 / 16 % 16) * 16 + c / 256 % 16) (c / 16 % 16)
    (digit_below (c / 16)) in
    let fourth =
    json_digit 1 (((0 * 16 + c / 256 / 16 % 16) * 16 + c / 256 % 16) * 16 + c / 16 % 16) (c % 16)
    (digit_below c) in
    grind (arith, first, second, third, fourth, four_make c h)

json_other : (c : ℕ) → (c == 92) ≡ false → (c == 34) ≡ false
    → JsonReads (if nat_lt c 32 || (c == 60) then 92 ∷ 117 ∷ four_digits c else c ∷ []) c
json_other c n q =
    choose (λ cs. JsonReads cs c) (nat_lt c 32 || (c == 60)) _ _
    (λ e. json_four c (grind (arith, nat_tests))) (λ e. grind (arith, nat_tests))

pub json_keeps : KeepsPlaces json_step is_json_place json_escape
json_keeps in_string c h =
    choose (λ cs. JsonReads cs c) (c == 92) _ _ (λ e. grind (arith, nat_tests))
    (λ n. choose (λ cs. JsonReads cs c) (c == 34) _ _ (λ e. grind (arith, nat_tests))
    (λ q. choose (λ cs. JsonReads cs c) (c == 10) _ _ (λ e. grind (arith, nat_tests))
    (λ a. choose (λ cs. JsonReads cs c) (c == 13) _ _ (λ e. grind (arith, nat_tests))
    (λ b. choose (λ cs. JsonReads cs c) (c == 9) _ _ (λ e. grind (arith, nat_tests))
    (λ t. json_other c n q)))))
json_keeps between c h = absurd (cc)
json_keeps json_slash c h = absurd (cc)
json_keeps (json_code left n) c h = absurd (cc)

-- a plain character is none that is escaped
pub plain_other : (c n : ℕ) (b : Bool) → (c == n) ≡ b → is_plain n ≡ false → is_plain c ≡ true
    → (c == n) ≡ false
plain_other c n false e h p = e
plain_other c n true e h p =
    let same : c ≡ n = grind (arith, nat_tests) in
    let plain : is_plain n ≡ true = rw same at p in absurd (cc)

plain_high : (c : ℕ) → is_plain c ≡ true → nat_lt c 32 ≡ false
plain_high c p = grind (arith, nat_tests)

pub plain_escape : (c : ℕ) → is_plain c ≡ true → json_escape c ≡ c ∷ []
plain_escape c p =
    rw (
      plain_other c 92 (c == 92) refl refl p,
      plain_other c 34 (c == 34) refl refl p,
      plain_other c 10 (c == 10) refl refl p,
      plain_other c 13 (c == 13) refl refl p,
      plain_other c 9 (c == 9) refl refl p,
      plain_other c 60 (c == 60) refl refl p,
      plain_high c p,
    ) refl

between_step : (c : ℕ) → is_plain c ≡ true → json_step between c ≡ (between, content c ∷ [])
between_step c p = rw (plain_other c 34 (c == 34) refl refl p, p) refl

pub json_plain : KeepsPlain json_step is_json_place json_escape
json_plain between c h p =
    let one = between_step c p in
    rw (plain_escape c p)
    (ap (λ (r : JsonState × List Token). r.0) one, ap (λ (r : JsonState × List Token). r.1 ++ []) one)
json_plain in_string c h p = absurd (cc)
json_plain json_slash c h p = absurd (cc)
json_plain (json_code left n) c h p = absurd (cc)

pub shell_keeps : KeepsPlaces shell_step is_shell_place shell_escape
shell_keeps shell_quoted c h = grind (arith, nat_tests)
shell_keeps outside c h = absurd (cc)
shell_keeps shell_slash c h = absurd (cc)
shell_keeps elsewhere c h = absurd (cc)

pub shell_plain : KeepsPlain shell_step is_shell_place shell_escape
shell_plain s c h p = shell_keeps s c h

-- ---- pages

pub html_keeps : KeepsPlaces html_step is_html_place html_escape
html_keeps (in_base in_text) c h = grind (arith, nat_tests)
html_keeps (in_base (in_value double element plain)) c h = grind (arith, nat_tests)
html_keeps (in_base (in_value single element plain)) c h = grind (arith, nat_tests)
html_keeps (in_base (in_value quote element read_again)) c h = absurd (cc)
html_keeps (in_base (in_value quote element (address seen))) c h = absurd (cc)
html_keeps (in_reference b name) c h = absurd (cc)
html_keeps opened c h = absurd (cc)
html_keeps closing c h = absurd (cc)
html_keeps marked c h = absurd (cc)
html_keeps marked_dash c h = absurd (cc)
html_keeps declared c h = absurd (cc)
html_keeps comment c h = absurd (cc)
html_keeps comment_dash c h = absurd (cc)
html_keeps comment_dashes c h = absurd (cc)
html_keeps (named begins name) c h = absurd (cc)
html_keeps (spaced element) c h = absurd (cc)
html_keeps (in_name element name) c h = absurd (cc)
html_keeps (after_name element name) c h = absurd (cc)
html_keeps (before_value element name) c h = absurd (cc)
html_keeps (in_bare_value element) c h = absurd (cc)
html_keeps (in_raw element) c h = absurd (cc)
html_keeps (raw_opened element) c h = absurd (cc)
html_keeps (raw_closing element rest) c h = absurd (cc)
html_keeps lost c h = absurd (cc)

pub html_plain : KeepsPlain html_step is_html_place html_escape
html_plain s c h p = html_keeps s c h

-- ---- controls

-- an escaped character has no control
two_controls : (n : ℕ) → filter is_control (two_digits n) ≡ []
two_controls n =
    rw (
      (digit_read (n / 16 % 16) (digit_below (n / 16))).1,
      (digit_read (n % 16) (digit_below n)).1,
    )
    refl

abbrev NoControl : List ℕ → Type 0
NoControl cs = filter is_control cs ≡ []

code_controls : (c : ℕ) → filter is_control (control_escape c) ≡ []
code_controls c =
    choose NoControl (nat_lt c 256) _ _ (λ low. two_controls c)
    (λ high. rw (
      filter-append is_control (two_digits (c / 256)) (two_digits c),
      two_controls (c / 256),
      two_controls c,
    ) refl)

line_controls : (c : ℕ) → filter is_control (line_escape c) ≡ []
line_controls c =
    choose NoControl (c == 92) _ _ (λ e. refl)
    (λ n. choose NoControl (c == 10) _ _ (λ e. refl)
    (λ n. choose NoControl (c == 13) _ _ (λ e. refl)
    (λ n. choose NoControl (c == 9) _ _ (λ e. refl)
    (λ n. choose NoControl (is_control c) _ _ (λ e. code_controls c) (λ e. rw e refl)))))

pub value_controls : (cs : List ℕ) → filter is_control (flat_map line_escape cs) ≡ []
value_controls [] = refl
value_controls (c ∷ cs) =
    rw (filter-append is_control (line_escape c) (flat_map line_escape cs), line_controls c)
    (value_controls cs)

control_state : (s : Unit {0}) (cs : List ℕ) → state_after control_step s cs ≡ s
control_state s [] = refl
control_state s (c ∷ cs) = control_state s cs

pub control_read : (s : Unit {0}) (cs : List ℕ)
    → structure_of (read control_step s cs) ≡ filter is_control cs
control_read s [] = refl
control_read s (c ∷ cs) = grind (arith, control_read s cs)

pub control_stays : (s : Unit {0}) (ds : List ℕ) → Stays control_step s (flat_map line_escape ds)
control_stays s ds = (
  control_state s (flat_map line_escape ds),
  control_read s (flat_map line_escape ds) ∙ value_controls ds,
)
