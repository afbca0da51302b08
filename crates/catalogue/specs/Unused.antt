-- The words that no message uses and no rule asks for. Texts are bytes.
use Rattle.std.specs.Prelude.{ℕ, Bool, false, not, ◌||◌, List, [], ◌∷◌, ◌++◌, codes, filter, map}
use Rattle.std.specs.Prelude.{if◌then◌else◌, Option, None, Some, Result, Ok, Err}
use Rattle.std.specs.{List.before_first, List.concat, List.list_any, Str.bytes_eq, Str.chars}
use Rattle.interpolator.specs.{Places.outermost, Meaning.AskedNames.asked_names}
use Rattle.plurals.specs.Trees.{Tree, alike, chosen, counted, grouped, joined, named, negated}
use Rattle.plurals.specs.Trees.{reduced, unlike}
use Rattle.plurals.specs.{Readings.tree_at, declared.fault.Fault.Fault}
use Rattle.catalogue.specs.Declarations.{Declared, broken, has, is_among, nothing, these}
use Rattle.catalogue.specs.Files.{Line, Page, lines_of}
use Rattle.catalogue.specs.{Formats.format_of, Lacks.each_once, Lacks.with_text, Lines.declared_of}
use Rattle.catalogue.specs.{Lines.has_message, Rules.rule_in}
use Rattle.words.specs.{Declarations.declaration_of, Words.is_equals}

-- the name of a word: what is before its first `=`, without the sign of its kind
abbrev pub name_of : List ℕ → Option (List ℕ)
name_of word =
    if has is_equals word then Some (declaration_of (before_first is_equals word)).0 else None

-- a name before others, if there is one
abbrev pub and_names : Option (List ℕ) → List (List ℕ) → List (List ℕ)
and_names None names = names
and_names (Some name) names = name ∷ names

-- the names of words, in their order
abbrev pub names_of : List (List ℕ) → List (List ℕ)
names_of [] = []
names_of (word ∷ words) = and_names (name_of word) (names_of words)

-- names, each once, and one more, if there is one
abbrev pub with_name : List (List ℕ) → Option (List ℕ) → List (List ℕ)
with_name names None = names
with_name names (Some name) = with_text names name

-- a name is that of a number or a text in an expression
abbrev pub is_in : List ℕ → Tree → Bool
is_in name (named text) = bytes_eq text name
is_in name (counted n) = false
is_in name (negated a) = is_in name a
is_in name (grouped a) = is_in name a
is_in name (reduced a n) = is_in name a
is_in name (joined operator a b) = is_in name a || is_in name b
is_in name (chosen a b c) = is_in name a || (is_in name b || is_in name c)
is_in name (alike tested text) = bytes_eq tested name
is_in name (unlike tested text) = bytes_eq tested name

-- a rule asks for a name in one of its tests; the forms that it chooses are not asked for
abbrev pub asks : List ℕ → Tree → Bool
asks name (grouped a) = asks name a
asks name (chosen a b c) = is_in name a || (asks name b || asks name c)
asks name _ = false

abbrev pub asks_by : List ℕ → Result Tree Fault → Bool
asks_by name (Ok tree) = asks name tree
asks_by name (Err fault) = false

abbrev pub rule_asks : List ℕ → Option (List ℕ) → Bool
rule_asks name None = false
rule_asks name (Some rule) = asks_by name (tree_at rule)

-- a line declares a name
abbrev pub declares : List ℕ → Declared → Bool
declares name nothing = false
declares name (these declared) = is_among declared name
declares name (broken place) = false

-- a format asks for a name
abbrev pub format_asks : List ℕ → Result (List ℕ) ℕ → Bool
format_asks name (Ok format) =
    list_any (λ one. bytes_eq one (chars name)) (asked_names (outermost (chars format)))
format_asks name (Err place) = false

-- a line uses a name: its message declares it or asks for it, or its rule asks for it
abbrev pub uses : List ℕ → Line → Bool
uses name line =
    if has_message line.text
    then declares name (declared_of line.text) || format_asks name (format_of line)
    else rule_asks name (rule_in line.text)

-- one of some lines uses a name, and one of the lines of some files
abbrev pub is_used : List ℕ → List Line → Bool
is_used name lines = list_any (uses name) lines

abbrev pub is_used_in : List Page → List ℕ → Bool
is_used_in pages name = list_any (λ page. is_used name (lines_of page)) pages

-- the names of words that no line of some files uses, each once
abbrev pub unused : List Page → (words : List (List ℕ)) → List (List ℕ)
unused pages words = filter (λ name. not (is_used_in pages name)) (each_once (names_of words))

-- what is reported of such a name: that no message of the first file uses it
abbrev pub first_name : List Page → List ℕ
first_name [] = []
first_name (page ∷ pages) = page.0

abbrev pub reported_unused : (file name : List ℕ) → List ℕ
reported_unused file name = file ++ (codes ": no message uses `" ++ (name ++ codes "`\n"))

abbrev pub report_of_unused : List Page → (words : List (List ℕ)) → List ℕ
report_of_unused pages words = concat (map (reported_unused (first_name pages)) (unused pages words))
