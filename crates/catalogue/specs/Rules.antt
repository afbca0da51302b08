-- The rule of a file, which chooses the form of a message by numbers and texts. Texts are bytes.
use Rattle.std.specs.Prelude.{ℕ, ℤ, pos, ◌+◌, ◌^◌, int_lt, unsigned_abs, List, codes, drop, take}
use Rattle.std.specs.Prelude.{if◌then◌else◌, Option, None, Some, Result, Ok, Err}
use Rattle.std.specs.{Borrow.Bor, Option.option_map, Str.bytes_eq}
use Rattle.interpolator.specs.declared.View.TheVariants.{Signed, Text}
use Rattle.interpolator.specs.{Explained.usize_sum, declared.View.View}
use Rattle.plurals.specs.Values.{Lack, has_forms, no_number, no_text}
use Rattle.plurals.specs.{Readings.tree_at, Trees.Tree, declared.fault.Fault.Fault}
use Rattle.plurals.specs.declared.fault.Problem.{Problem}
use Rattle.plurals.specs.declared.fault.Problem.TheVariants as problems
use Rattle.catalogue.specs.{Declarations.begin_of, Picks.last_named}
use Rattle.words.specs.declared.Kind.{Kind}
use Rattle.words.specs.declared.Kind.TheVariants as kinds
use Rattle.catalogue.specs.declared.entries.Object.{Object}

-- what a line with a rule begins with
abbrev pub rule_head : List ℕ
rule_head = codes "plural:"

-- the rule of a line, if it has one
abbrev pub rule_in : List ℕ → Option (List ℕ)
rule_in line = if bytes_eq (take 7 line) rule_head then Some (drop 7 line) else None

-- the whole number that a view has
abbrev pub whole_number : View → Option ℤ
whole_number (Signed number bits) = Some number
whole_number _ = None

-- the number of an object, if there is one, and if it is a number
abbrev pub number_in : Option Object → Option ℤ
number_in None = None
number_in (Some object) = whole_number object.value

-- the number under a name: that of the last object of the name
abbrev pub number_under : List Object → List ℕ → Option ℤ
number_under objects name = number_in (last_named objects name)

-- what a rule takes for a number: a negative one is 10^38 and its size, so it is none below that,
-- and has the last digits of its size
abbrev pub counted : ℤ → ℕ
counted n = if int_lt n (pos 0) then 10 ^ 38 + unsigned_abs n else unsigned_abs n

-- the numbers that a rule finds
abbrev pub numbers_of : List Object → List ℕ → Option ℕ
numbers_of objects name = option_map counted (number_under objects name)

-- the text that a view has
abbrev pub text_of : View → Option (List ℕ)
text_of (Text text) = Some text.now
text_of _ = None

-- the text of an object, if there is one, and if it is a text
abbrev pub text_in : Option Object → Option (List ℕ)
text_in None = None
text_in (Some object) = text_of object.value

-- the texts that a rule finds: that of the last object of a name
abbrev pub texts_of : List Object → List ℕ → Option (List ℕ)
texts_of objects name = text_in (last_named objects name)

-- what has to be declared for what is missing
abbrev pub declared_for : Lack → List ℕ × Kind
declared_for (no_number name) = (name, kinds.Number)
declared_for (no_text name) = (name, kinds.Text)

-- what is reported of a problem in a rule
abbrev pub problem_text : Problem → List ℕ
problem_text problems.Token =
    codes "a rule has names, numbers below 2^64 and `! % < <= > >= == != && || ? : ( )`"
problem_text problems.Text = codes "a text in quotes follows a name and `==` or `!=`"
problem_text problems.Quote = codes "a quote is not closed"
problem_text problems.Divisor = codes "a number that is not 0 follows a `%`"
problem_text problems.Operand = codes "a name, a number, `!` or `(` is missing here"
problem_text problems.Operator = codes "an operator is missing here, or the end of the rule"
problem_text problems.Unfinished = codes "a `(` is not closed, or a `?` has no `:`"
problem_text problems.Long = codes "a rule has at most 1000 words"

-- what is reported of a rule whose choices do not all come to forms
abbrev pub no_form : List ℕ
no_form = codes "each part of a rule ends in a form, as in `n == 1 ? one : other`"

-- what is wrong with the rule of a line, if anything is, and at which byte of the line
abbrev pub wrong_by : (rule : List ℕ) → Result Tree Fault → Option (ℕ × List ℕ)
wrong_by rule (Ok tree) = if has_forms tree then None else Some (begin_of 7 rule, no_form)
wrong_by rule (Err fault) = Some (usize_sum 7 fault.place, problem_text fault.problem)

abbrev pub wrong_in : List ℕ → Option (ℕ × List ℕ)
wrong_in rule = wrong_by rule (tree_at rule)

-- borrows aside
abbrev pub as_wrong : ℕ × Bor (List ℕ) → ℕ × List ℕ
as_wrong wrong = (wrong.0, wrong.1.now)
