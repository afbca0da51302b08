-- A line of a file: its key, and what it declares. Texts are bytes.
use Rattle.std.specs.Prelude.{ℕ, Bool, not, ◌==◌, ◌&&◌, ◌||◌, List, if◌then◌else◌, is_some, Option}
use Rattle.std.specs.Prelude.{None, Some}
use Rattle.std.specs.{List.before_first, List.slice_index, Str.bytes_eq}
use Rattle.catalogue.specs.Declarations.{Declared, declared_in, has, key_in}
use Rattle.catalogue.specs.Rules.{rule_head, rule_in}
use Rattle.folds.specs.Lines.{goes_on, is_blank}
use Rattle.words.specs.Words.{is_equals}

-- `#`
abbrev pub hash : ℕ
hash = 35

-- a line is a comment: it begins with `#`
abbrev pub is_comment : List ℕ → Bool
is_comment line = slice_index line 0 == hash

-- whether a line is skipped: it is blank or a comment, or goes on with the message before it
abbrev pub is_passed_over : List ℕ → Bool
is_passed_over line = is_blank line || (is_comment line || goes_on line)

-- a message may go on after a line: the line has no comment and no rule; blank lines and those that
-- go on leave that as it is
abbrev pub opens : Bool → List ℕ → Bool
opens is_open line =
    if is_blank line || goes_on line then is_open
    else not (is_comment line) && not (is_some (rule_in line))

-- the head of a line, before its first `=`
abbrev pub head_of : List ℕ → List ℕ
head_of line = before_first is_equals line

-- the key of a line
abbrev pub key_of : List ℕ → List ℕ
key_of line = key_in (head_of line)

-- what a line declares
abbrev pub declared_of : List ℕ → Declared
declared_of line = declared_in (head_of line)

-- whether a line has a message: it is not skipped, has no rule, and has an `=`
abbrev pub has_message : List ℕ → Bool
has_message line =
    not (is_passed_over line) && (not (is_some (rule_in line)) && has is_equals line)

-- whether it has one under a key
abbrev pub is_under : List ℕ → List ℕ → Bool
is_under key line = has_message line && bytes_eq (key_of line) key

-- what a line puts among the keys: `plural:` if it has a rule, or the key of its message
abbrev pub key_without_rule : List ℕ → Option (List ℕ) → Option (List ℕ)
key_without_rule line (Some rule) = Some rule_head
key_without_rule line None = if has is_equals line then Some (key_of line) else None

abbrev pub key_with : List ℕ → Option (List ℕ)
key_with line = if is_passed_over line then None else key_without_rule line (rule_in line)
