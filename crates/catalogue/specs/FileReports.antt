-- What is reported of lines and files. Texts are bytes.
use Rattle.std.specs.Prelude.{ℕ, Bool, false, not, ◌==◌, ◌||◌, List, [], ◌∷◌, ◌++◌, codes, length}
use Rattle.std.specs.Prelude.{map, if◌then◌else◌, Option, None, Some, Result, Ok, Err}
use Rattle.std.specs.List.{concat}
use Rattle.interpolator.specs.Faults.{Answer as Reply, answer_place, fault}
use Rattle.interpolator.specs.FaultTexts.{answer_text}
use Rattle.catalogue.specs.Declarations.{Declared, nothing, these, broken, begin_of, has}
use Rattle.catalogue.specs.Files.{Line, Page, lines_of}
use Rattle.catalogue.specs.Formats.{format_of, reported_in, report_of_place}
use Rattle.catalogue.specs.Forms.{choice_with, or_form, rule_of}
use Rattle.catalogue.specs.Lines.{declared_of, head_of, is_passed_over, key_of, key_with, opens}
use Rattle.catalogue.specs.{Examples.faults_of, Keys.report_of_key, Keys.with_key}
use Rattle.catalogue.specs.{Reports.reported_at}
use Rattle.catalogue.specs.{Rules.rule_in, Rules.wrong_in, declared.entries.Object.Object}
use Rattle.folds.specs.Lines.{goes_on}
use Rattle.words.specs.Words.{is_equals}

-- what is reported of a fault of a line's format: the fault as shown in the line that writes it
abbrev pub report_of_fault : Line → (format : List ℕ) → Reply → List ℕ
report_of_fault line format why = report_of_place line format (answer_place why) (answer_text why)

-- what is reported of several: each of them, in their order
abbrev pub report_of_faults : Line → (format : List ℕ) → List Reply → List ℕ
report_of_faults line format whys = concat (map (report_of_fault line format) whys)

-- what is reported of a broken declaration
abbrev pub what_is_declared : List ℕ
what_is_declared = codes "declarations are `(NAME, NAME:, NAME:., NAME:~, NAME[])`, each name once"

-- what is reported of a wrong backslash
abbrev pub what_is_written : List ℕ
what_is_written = codes "a backslash is followed by `n`, for a line end, or by another backslash"

-- what is reported of a format: a wrong backslash, or its faults
abbrev pub report_of_format : Line → Declared → Result (List ℕ) ℕ → List ℕ
report_of_format line declared (Err place) = reported_in line place what_is_written
report_of_format line declared (Ok format) =
    report_of_faults line format (map fault (faults_of declared format))

-- what is reported of a line's message: a broken declaration, or what is wrong with its format
abbrev pub report_of_message : Line → Declared → Result (List ℕ) ℕ → List ℕ
report_of_message line nothing format = report_of_format line nothing format
report_of_message line (these declared) format = report_of_format line (these declared) format
report_of_message line (broken place) format = reported_at line place what_is_declared

-- what is reported of a rule: that another rule or a message is before it, or what is wrong with it
abbrev pub what_is_before : List ℕ
what_is_before = codes "a rule stands once, before all messages"

abbrev pub report_of_wrong : Line → Option (ℕ × List ℕ) → List ℕ
report_of_wrong line None = []
report_of_wrong line (Some wrong) = reported_at line wrong.0 wrong.1

abbrev pub report_of_rule : List (ℕ × List ℕ) → Line → (rule : List ℕ) → List ℕ
report_of_rule keys line rule =
    if length keys == 0 then report_of_wrong line (wrong_in rule)
    else reported_at line 0 what_is_before

-- what is reported of a line that has no rule: that it has no `=`, or what is wrong with its key
-- and its message
abbrev pub report_of_plain : List (ℕ × List ℕ) → Line → List ℕ
report_of_plain keys line =
    if has is_equals line.text
    then report_of_key line (head_of line.text) (key_of line.text) keys
    ++ report_of_message line (declared_of line.text) (format_of line)
    else reported_at line 0 (codes "no `=`")

-- what is reported of a line, by the keys of those before: nothing, if it is sound
abbrev pub reported_by_rule : List (ℕ × List ℕ) → Line → Option (List ℕ) → List ℕ
reported_by_rule keys line (Some rule) = report_of_rule keys line rule
reported_by_rule keys line None = report_of_plain keys line

-- what is reported of a line that is skipped: that it goes on, if no message may go on there
abbrev pub what_goes_on : List ℕ
what_goes_on = codes "a line that begins with a blank goes on with a message, and none is before"

abbrev pub report_of_more : (is_open : Bool) → Line → List ℕ
report_of_more is_open line =
    if is_open || not (goes_on line.text) then []
    else reported_at line (begin_of 0 line.text) what_goes_on

abbrev pub report_of_line : List (ℕ × List ℕ) → (is_open : Bool) → Line → List ℕ
report_of_line keys is_open line =
    if is_passed_over line.text then report_of_more is_open line
    else reported_by_rule keys line (rule_in line.text)

-- what is reported of the lines of a file, after others with these keys, in their order
abbrev pub report_of_lines : List (ℕ × List ℕ) → (is_open : Bool) → List Line → List ℕ
report_of_lines keys is_open [] = []
report_of_lines keys is_open (line ∷ rest) = report_of_line keys is_open line
    ++ report_of_lines (with_key keys line.number (key_with line.text)) (opens is_open line.text) rest

-- what is reported of a file, and of several, in their order
abbrev pub report_of_file : Page → List ℕ
report_of_file page = report_of_lines [] false (lines_of page)

abbrev pub report_of_files : List Page → List ℕ
report_of_files pages = concat (map report_of_file pages)

-- what is reported of a key that a file does not have, nor its form; and that several do not have
abbrev pub reported_absent : List Object → List ℕ → Page → List ℕ
reported_absent objects key page = page.0 ++ (codes ": no message `" ++ (key ++ (codes "`"
    ++ (or_form key (choice_with objects (rule_of page.1)) ++ codes "\n"))))

abbrev pub report_of_absent : List Object → List ℕ → List Page → List ℕ
report_of_absent objects key pages = concat (map (reported_absent objects key) pages)
