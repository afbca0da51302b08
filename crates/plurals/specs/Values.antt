-- The value of an expression, over natural numbers.
use Rattle.std.specs.Prelude.{ℕ, Bool, true, false, not, ◌&&◌, ◌||◌, ◌==◌, ◌%◌, nat_lt, List, []}
use Rattle.std.specs.Prelude.{◌∷◌, ◌++◌, if◌then◌else◌, Option, None, Some, is_some}
use Rattle.std.specs.{Fmt.decimal, Option.option_or, Str.bytes_eq}
use Rattle.plurals.specs.Trees.{Tree, alike, chosen, counted, grouped, joined, named, negated}
use Rattle.plurals.specs.Trees.{reduced, unlike}
use Rattle.plurals.specs.declared.expression.Form.TheVariants.{Name, Number}
use Rattle.plurals.specs.declared.expression.Operator.TheVariants.{Or, And, Equal, Unequal, Less}
use Rattle.plurals.specs.declared.expression.Operator.TheVariants.{LessOrEqual, Greater}
use Rattle.plurals.specs.declared.expression.Operator.TheVariants.{GreaterOrEqual}
use Rattle.plurals.specs.{declared.expression.Form.Form, declared.expression.Operator.Operator}
use Rattle.plurals.specs.declared.given.Missing.{Missing}
use Rattle.plurals.specs.declared.given.Missing.TheVariants as lacks

-- 1 for what is true, and 0 for what is not
abbrev pub truth : Bool → ℕ
truth true = 1
truth false = 0

-- a number stands for what is true if it is not 0
abbrev pub is_true : ℕ → Bool
is_true n = not (n == 0)

-- what an operator makes of two numbers
abbrev pub applied : Operator → ℕ → ℕ → ℕ
applied Or a b = truth (is_true a || is_true b)
applied And a b = truth (is_true a && is_true b)
applied Equal a b = truth (a == b)
applied Unequal a b = truth (not (a == b))
applied Less a b = truth (nat_lt a b)
applied LessOrEqual a b = truth (not (nat_lt b a))
applied Greater a b = truth (nat_lt b a)
applied GreaterOrEqual a b = truth (not (nat_lt a b))

-- what is left of a number after a division; no rule divides by 0
abbrev pub remainder : ℕ → ℕ → ℕ
remainder a n = if n == 0 then 0 else a % n

-- a number that is missing counts as 0
abbrev pub or_zero : Option ℕ → ℕ
or_zero None = 0
or_zero (Some n) = n

-- a text is the one that is wanted; one that is missing is none
abbrev pub is_text : Option (List ℕ) → (wanted : List ℕ) → Bool
is_text None wanted = false
is_text (Some text) wanted = bytes_eq text wanted

-- the numbers and the texts under names
abbrev pub Numbers : Type 0
Numbers = List ℕ → Option ℕ

abbrev pub Texts : Type 0
Texts = List ℕ → Option (List ℕ)

-- the value of an expression, by the numbers and the texts under names
abbrev pub value_by : Numbers → Texts → Tree → ℕ
value_by numbers texts (named text) = or_zero (numbers text)
value_by numbers texts (counted n) = n
value_by numbers texts (negated a) = truth (value_by numbers texts a == 0)
value_by numbers texts (grouped a) = value_by numbers texts a
value_by numbers texts (reduced a n) = remainder (value_by numbers texts a) n
value_by numbers texts (joined operator a b) =
    applied operator (value_by numbers texts a) (value_by numbers texts b)
value_by numbers texts (chosen a b c) =
    if value_by numbers texts a == 0 then value_by numbers texts c else value_by numbers texts b
value_by numbers texts (alike tested text) = truth (is_text (texts tested) text)
value_by numbers texts (unlike tested text) = truth (not (is_text (texts tested) text))

-- what is missing: a number or a text under a name
pub data Lack : Type 0 where
  no_number : List ℕ → Lack
  no_text : List ℕ → Lack

abbrev pub as_lack : Missing → Lack
as_lack (lacks.Number name) = no_number name.now
as_lack (lacks.Text name) = no_text name.now

-- what is missing, if it is
abbrev pub unless : Bool → Lack → Option Lack
unless there lack = if there then None else Some lack

-- the first that is missing of what an expression names
abbrev pub missing_for : Numbers → Texts → Tree → Option Lack
missing_for numbers texts (named text) = unless (is_some (numbers text)) (no_number text)
missing_for numbers texts (counted n) = None
missing_for numbers texts (negated a) = missing_for numbers texts a
missing_for numbers texts (grouped a) = missing_for numbers texts a
missing_for numbers texts (reduced a n) = missing_for numbers texts a
missing_for numbers texts (joined operator a b) =
    option_or (missing_for numbers texts a) (missing_for numbers texts b)
missing_for numbers texts (chosen a b c) = option_or (missing_for numbers texts a)
    (option_or (missing_for numbers texts b) (missing_for numbers texts c))
missing_for numbers texts (alike tested text) =
    unless (is_some (texts tested)) (no_text tested)
missing_for numbers texts (unlike tested text) =
    unless (is_some (texts tested)) (no_text tested)

-- a choice by an expression takes its first part: it is true, or something is missing for it
abbrev pub holds : Numbers → Texts → Tree → Bool
holds numbers texts a =
    is_some (missing_for numbers texts a) || is_true (value_by numbers texts a)

-- a form: a name, or the digits of a number
abbrev pub as_form : Form → List ℕ
as_form (Name text) = text.now
as_form (Number n) = decimal n

-- the form that an expression chooses: the name or number to which its choices come
abbrev pub form_by : Numbers → Texts → Tree → Option (List ℕ)
form_by numbers texts (named text) = Some text
form_by numbers texts (counted n) = Some (decimal n)
form_by numbers texts (grouped a) = form_by numbers texts a
form_by numbers texts (chosen a b c) =
    if holds numbers texts a then form_by numbers texts b else form_by numbers texts c
form_by numbers texts _ = None

-- all forms that it can choose
abbrev pub forms : Tree → List (List ℕ)
forms (named text) = text ∷ []
forms (counted n) = decimal n ∷ []
forms (grouped a) = forms a
forms (chosen a b c) = forms b ++ forms c
forms _ = []

-- whatever the numbers and texts are, it chooses a form
abbrev pub has_forms : Tree → Bool
has_forms (named text) = true
has_forms (counted n) = true
has_forms (grouped a) = has_forms a
has_forms (chosen a b c) = has_forms b && has_forms c
has_forms _ = false

-- the first that is missing in the tests by which it comes to its form
abbrev pub missing_in : Numbers → Texts → Tree → Option Lack
missing_in numbers texts (grouped a) = missing_in numbers texts a
missing_in numbers texts (chosen a b c) = option_or (missing_for numbers texts a)
    (if value_by numbers texts a == 0 then missing_in numbers texts c
    else missing_in numbers texts b)
missing_in numbers texts _ = None
