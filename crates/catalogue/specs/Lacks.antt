-- The forms that a key lacks, of those that the rule of its file can choose. Texts are bytes.
use Rattle.std.specs.Prelude.{◌≡◌, ℕ, Bool, false, not, ◌&&◌, nat_lt, List, [], ◌∷◌, ◌++◌, codes}
use Rattle.std.specs.Prelude.{filter, map, if◌then◌else◌, Option, None, Some, is_some, Result, Ok}
use Rattle.std.specs.Prelude.{Err}
use Rattle.std.specs.{Borrow.Bor, HashMap.HashMap, HashMap.get_by, List.concat, List.list_any}
use Rattle.std.specs.{Path.rsplit_once, Str.bytes_eq}
use Rattle.plurals.specs.{Readings.tree_at, Trees.Tree, Values.forms, declared.fault.Fault.Fault}
use Rattle.catalogue.specs.Lines.{has_message, head_of, is_under, key_of}
use Rattle.catalogue.specs.{Declarations.begin_of, Files.Line, Files.Page, Files.lines_of}
use Rattle.catalogue.specs.{Forms.first_given, Forms.key_of_form, Forms.rule_of}
use Rattle.catalogue.specs.{Reports.reported_at}

-- a text is one of some texts
abbrev pub is_one_of : List (List ℕ) → List ℕ → Bool
is_one_of texts text = list_any (λ one. bytes_eq one text) texts

-- texts, each once, where it stands first
abbrev pub each_once : List (List ℕ) → List (List ℕ)
each_once [] = []
each_once (text ∷ texts) = text ∷ filter (λ other. not (bytes_eq text other)) (each_once texts)

-- texts, each once, and one more
abbrev pub with_text : List (List ℕ) → List ℕ → List (List ℕ)
with_text texts text = if is_one_of texts text then texts else texts ++ (text ∷ [])

-- the forms that the rule of a file can choose, each once; none, if it has no rule, or a broken one
abbrev pub forms_by : Result Tree Fault → List (List ℕ)
forms_by (Ok tree) = each_once (forms tree)
forms_by (Err fault) = []

abbrev pub forms_with : Option (List ℕ) → List (List ℕ)
forms_with None = []
forms_with (Some rule) = forms_by (tree_at rule)

abbrev pub forms_in : List (List ℕ) → List (List ℕ)
forms_in texts = forms_with (rule_of texts)

-- the key of the message of a line, if it has one
abbrev pub key_if_message : List ℕ → Option (List ℕ)
key_if_message line = if has_message line then Some (key_of line) else None

-- the number of the first of some lines that has a message under a key, if one has
abbrev pub number_under : List ℕ → Line → Option ℕ
number_under key line = if is_under key line.text then Some line.number else None

abbrev pub first_of : List Line → List ℕ → Option ℕ
first_of lines key = first_given (number_under key) lines

-- a map has that number for each key
pub record HasFirsts {S : Type 0} (lines : List Line) (keys : HashMap (Bor (List ℕ)) ℕ S)
    : Type 0 where
  pub finds : (key : List ℕ) → get_by (λ one. bytes_eq key one.now) keys ≡ first_of lines key

-- the forms of a key of which no line has a message
abbrev pub lacking : List Line → (key : List ℕ) → (forms : List (List ℕ)) → List (List ℕ)
lacking lines key forms =
    filter (λ form. not (is_some (first_of lines (key_of_form key form)))) forms

-- a line before the one of this number has one of some forms of a key
abbrev pub is_before : (number : ℕ) → Option ℕ → Bool
is_before number None = false
is_before number (Some first) = nat_lt first number

abbrev pub has_before : List Line → (number : ℕ) → (key : List ℕ) → List (List ℕ) → Bool
has_before lines number key forms =
    list_any (λ form. is_before number (first_of lines (key_of_form key form))) forms

-- a form is one of some forms, and no line has the key itself
abbrev pub is_form : List Line → (forms : List (List ℕ)) → (key form : List ℕ) → Bool
is_form lines forms key form = is_one_of forms form && not (is_some (first_of lines key))

-- the key of which this is one of some forms, if no line has the key itself
abbrev pub if_form : List Line → (forms : List (List ℕ)) → Option (List ℕ × List ℕ)
    → Option (List ℕ)
if_form lines forms None = None
if_form lines forms (Some parts) =
    if is_form lines forms parts.0 parts.1 then Some parts.0 else None

abbrev pub key_with_forms : List Line → (forms : List (List ℕ)) → List ℕ → Option (List ℕ)
key_with_forms lines forms whole = if_form lines forms (rsplit_once 46 whole)

-- texts between backquotes, with commas between
abbrev pub quoted : List ℕ → List ℕ
quoted text = codes "`" ++ (text ++ codes "`")

abbrev pub with_comma : List ℕ → List ℕ
with_comma text = codes ", " ++ quoted text

abbrev pub all_quoted : List ℕ → List (List ℕ) → List ℕ
all_quoted first more = quoted first ++ concat (map with_comma more)

-- what is reported of the forms that a key lacks, if it lacks any
abbrev pub what_is_lacking : (key first : List ℕ) → List (List ℕ) → List ℕ
what_is_lacking key first more = codes "`" ++ (key
    ++ (codes "` lacks forms that the rule can choose: " ++ all_quoted first more))

abbrev pub lacking_at_key : Line → (head key : List ℕ) → List (List ℕ) → List ℕ
lacking_at_key line head key [] = []
lacking_at_key line head key (first ∷ more) =
    reported_at line (begin_of 0 head) (what_is_lacking key first more)

-- what is reported of a key in the first line that has one of its forms
abbrev pub report_of_first : List Line → (forms : List (List ℕ)) → Line → Option (List ℕ) → List ℕ
report_of_first lines forms line None = []
report_of_first lines forms line (Some key) =
    if has_before lines line.number key forms then []
    else lacking_at_key line (head_of line.text) key (lacking lines key forms)

-- what is reported of a line
abbrev pub lacking_in_line : List Line → (forms : List (List ℕ)) → Line → List ℕ
lacking_in_line lines forms line =
    if has_message line.text
    then report_of_first lines forms line (key_with_forms lines forms (key_of line.text)) else []

-- what is reported of a file: each key of which it has some of the forms that its rule can choose,
-- but neither all of them nor the key itself
abbrev pub lacking_in_file : Page → List ℕ
lacking_in_file page = concat (map (lacking_in_line (lines_of page) (forms_in page.1)) (lines_of page))

abbrev pub lacking_in_files : List Page → List ℕ
lacking_in_files pages = concat (map lacking_in_file pages)
