-- The tokens of a rule. Texts are bytes.
use Rattle.std.specs.Prelude.{◌≡◌, ⊤, ℕ, Bool, not, ◌&&◌, ◌||◌, ◌==◌, ◌-◌, ◌^◌, nat_lt, suc, zero}
use Rattle.std.specs.Prelude.{List, [], ◌∷◌, codes, drop, length, take, if◌then◌else◌, Option, None}
use Rattle.std.specs.Prelude.{Some, Result, Ok, Err}
use Rattle.std.specs.List.{after_first, before_first, list_all, list_any, position_or_len}
use Rattle.std.specs.Str.{bytes_eq, chars, trim_start}
use Rattle.std.specs.{Borrow.Bor, Char.is_ascii_digit, Char.is_whitespace, Option.option_map}
use Rattle.std.specs.{Option.option_or, Str.Parse.digits_value}
use Rattle.plurals.specs.declared.expression.Operator.{Operator}
use Rattle.plurals.specs.declared.expression.Operator.TheVariants as operators
use Rattle.plurals.specs.declared.fault.ParseError.TheVariants.{Broken, NoMemory}
use Rattle.plurals.specs.{declared.fault.Fault.Fault, declared.fault.ParseError.ParseError}
use Rattle.plurals.specs.declared.fault.Problem.{Problem}
use Rattle.plurals.specs.declared.fault.Problem.TheVariants as problems
use Rattle.plurals.specs.declared.token.Token.{Token}
use Rattle.plurals.specs.declared.token.Token.TheVariants as tokens
use Rattle.plurals.specs.{declared.token.Placed.Placed, declared.token.Rest.Rest}

-- a token, borrows aside
pub data Word : Type 0 where
  name : List ℕ → Word
  number : ℕ → Word
  modulo : ℕ → Word
  between : Operator → Word
  bang : Word
  open_bracket : Word
  close_bracket : Word
  question : Word
  colon : Word
  equal_to : (name text : List ℕ) → Word
  unequal_to : (name text : List ℕ) → Word

abbrev pub as_word : Token → Word
as_word (tokens.Name text) = name text.now
as_word (tokens.Number n) = number n
as_word (tokens.Remainder n) = modulo n
as_word (tokens.Binary operator) = between operator
as_word tokens.Not = bang
as_word tokens.Open = open_bracket
as_word tokens.Close = close_bracket
as_word tokens.Question = question
as_word tokens.Colon = colon
as_word (tokens.Is named text) = equal_to named.now text.now
as_word (tokens.IsNot named text) = unequal_to named.now text.now

-- a word, and the byte at which it begins
abbrev pub Spot : Type 0
Spot = ℕ × Word

abbrev pub as_spot : Placed → Spot
as_spot placed = (placed.place, as_word placed.token)

-- what goes on after what was read, and stops at a fault
infixl 10 ◌>>=◌
abbrev pub ◌>>=◌ : {A B E : Type 0} → Result A E → (A → Result B E) → Result B E
(Ok x) >>= next = next x
(Err e) >>= next = Err e

-- a word of two characters: `==`, `!=`, `<=`, `>=`, `||` or `&&`
abbrev pub with_equals : ℕ → Option Word
with_equals b =
    if b == 61 then Some (between operators.Equal)
    else if b == 33 then Some (between operators.Unequal)
    else if b == 60 then Some (between operators.LessOrEqual)
    else if b == 62 then Some (between operators.GreaterOrEqual)
    else None

abbrev pub twice : ℕ → Option Word
twice b =
    if b == 124 then Some (between operators.Or)
    else if b == 38 then Some (between operators.And)
    else None

abbrev pub double : (b c : ℕ) → Option Word
double b c = if c == 61 then with_equals b else if b == c then twice b else None

-- a word of one character: `!`, `(`, `)`, `?`, `:`, `<` or `>`
abbrev pub single : ℕ → Option Word
single b =
    if b == 33 then Some bang
    else if b == 40 then Some open_bracket
    else if b == 41 then Some close_bracket
    else if b == 63 then Some question
    else if b == 58 then Some colon
    else if b == 60 then Some (between operators.Less)
    else if b == 62 then Some (between operators.Greater)
    else None

-- a byte ends a name or a number: a blank, a tab, or one of `!%&()<=>?:|`
abbrev pub ends_run : ℕ → Bool
ends_run b = b == 32 || b == 9 || b == 33 || b == 37 || b == 38 || b == 40 || b == 41 || b == 58
    || b == 60 || b == 61 || b == 62 || b == 63 || b == 124

-- the longest front of a text that may be a name or a number, and what is after it
abbrev pub run_of : List ℕ → List ℕ
run_of text = take (position_or_len ends_run text) text

abbrev pub after_run : List ℕ → List ℕ
after_run text = drop (position_or_len ends_run text) text

-- a text is one or more digits
abbrev pub is_numeral : List ℕ → Bool
is_numeral text = not (length text == 0) && list_all is_ascii_digit text

-- the number that digits write, if it is below 2^64
abbrev pub number_in : List ℕ → Option ℕ
number_in text =
    if is_numeral text && nat_lt (digits_value 10 text) (2 ^ 64)
    then Some (digits_value 10 text) else None

-- a text can be a name: it is not empty, and has no white space
abbrev pub is_name : List ℕ → Bool
is_name text = not (length text == 0) && not (list_any is_whitespace (chars text))

-- what follows a front, if a text begins with it
abbrev pub after_front : (front text : List ℕ) → Option (List ℕ)
after_front front text =
    if bytes_eq (take (length front) text) front then Some (drop (length front) text) else None

-- the character `'`
abbrev pub is_quote : ℕ → Bool
is_quote b = b == 39

-- a quote is in the text
abbrev pub has_quote : List ℕ → Bool
has_quote text = nat_lt (position_or_len is_quote text) (length text)

-- what is before the first quote of a text, and what is after it
abbrev pub around_quote : List ℕ → Option (List ℕ × List ℕ)
around_quote text =
    if has_quote text then Some (before_first is_quote text, after_first is_quote text) else None

-- the text between quotes with which a text begins, and what is after it
abbrev pub quoted : Option (List ℕ) → Option (List ℕ × List ℕ)
quoted None = None
quoted (Some rest) = around_quote rest

abbrev pub quoted_at : List ℕ → Option (List ℕ × List ℕ)
quoted_at text = quoted (after_front (codes "'") text)

-- the text between quotes after a sign, if a text begins with that
abbrev pub quoted_by : Option (List ℕ) → Option (List ℕ × List ℕ)
quoted_by None = None
quoted_by (Some rest) = quoted_at (trim_start rest)

abbrev pub quoted_after : (sign text : List ℕ) → Option (List ℕ × List ℕ)
quoted_after sign text = quoted_by (after_front sign (trim_start text))

-- the word that a name is: with the text with which it is compared, if one follows
abbrev pub named_by : (run rest : List ℕ) → (equal unequal : Option (List ℕ × List ℕ))
    → Word × List ℕ
named_by run rest (Some read) unequal = (equal_to run read.0, read.1)
named_by run rest None (Some read) = (unequal_to run read.0, read.1)
named_by run rest None None = (name run, rest)

abbrev pub named_at : (run rest : List ℕ) → Word × List ℕ
named_at run rest =
    named_by run rest (quoted_after (codes "==") rest) (quoted_after (codes "!=") rest)

-- the word that a run is: a number below 2^64, or a name
abbrev pub word_in : (run rest : List ℕ) → Option ℕ → Option (Word × List ℕ)
word_in run rest (Some n) = Some (number n, rest)
word_in run rest None =
    if not (is_numeral run) && is_name run then Some (named_at run rest) else None

-- a word and the text after it, if there is one
abbrev pub or_problem : Problem → List ℕ → Option Word → Result (Word × List ℕ) Problem
or_problem problem rest None = Err problem
or_problem problem rest (Some word) = Ok (word, rest)

-- what stands after a `%`: a number that is not 0
abbrev pub divisor_in : Option ℕ → Option Word
divisor_in None = None
divisor_in (Some n) = if n == 0 then None else Some (modulo n)

abbrev pub divisor_at : List ℕ → Result (Word × List ℕ) Problem
divisor_at text = or_problem problems.Divisor (after_run text) (divisor_in (number_in (run_of text)))

abbrev pub or_token : Option (Word × List ℕ) → Result (Word × List ℕ) Problem
or_token None = Err problems.Token
or_token (Some read) = Ok read

abbrev pub run_at : List ℕ → Result (Word × List ℕ) Problem
run_at text = or_token (word_in (run_of text) (after_run text) (number_in (run_of text)))

-- what is wrong with a text in quotes that no name is before, by what follows its first quote
abbrev pub stray : List ℕ → Problem
stray rest = if has_quote rest then problems.Text else problems.Quote

-- a number, a name or a comparison of one with a text
abbrev pub by_quote : List ℕ → Option (List ℕ) → Result (Word × List ℕ) Problem
by_quote text None = run_at text
by_quote text (Some rest) = Err (stray rest)

abbrev pub operand_at : List ℕ → Result (Word × List ℕ) Problem
operand_at text = by_quote text (after_front (codes "'") text)

-- the sign with which a text begins, if it does, and the text after it
abbrev pub double_at : List ℕ → Option (Word × List ℕ)
double_at (b ∷ c ∷ rest) = option_map (λ word. (word, rest)) (double b c)
double_at _ = None

abbrev pub single_at : List ℕ → Option (Word × List ℕ)
single_at [] = None
single_at (b ∷ rest) = option_map (λ word. (word, rest)) (single b)

-- the word with which a text begins, and the text after it: the longest sign, or else a run
abbrev pub by_percent : List ℕ → Option (List ℕ) → Result (Word × List ℕ) Problem
by_percent text None = operand_at text
by_percent text (Some rest) = divisor_at (trim_start rest)

abbrev pub by_sign : List ℕ → Option (Word × List ℕ) → Result (Word × List ℕ) Problem
by_sign text None = by_percent text (after_front (codes "%") text)
by_sign text (Some read) = Ok read

abbrev pub word_at : List ℕ → Result (Word × List ℕ) Problem
word_at text = by_sign text (option_or (double_at text) (single_at text))

-- a problem at a place
abbrev pub at : {A : Type 0} → ℕ → Result A Problem → Result A Fault
at place (Ok x) = Ok x
at place (Err problem) = Err (record { place = place; problem = problem })

abbrev pub broken : ℕ → Problem → ParseError
broken place problem = Broken (record { place = place; problem = problem })

-- what a result is seen as
abbrev pub seen : {A B E : Type 0} → (A → B) → Result A E → Result B E
seen view (Ok x) = Ok (view x)
seen view (Err e) = Err e

-- two texts, borrows aside
abbrev pub as_pair : Bor (List ℕ) × Bor (List ℕ) → List ℕ × List ℕ
as_pair pair = (pair.0.now, pair.1.now)

-- a word and the text after it, borrows aside
abbrev pub as_read : Token × Bor (List ℕ) → Word × List ℕ
as_read read = (as_word read.0, read.1.now)

-- a word at its place, and the text after it
abbrev pub spot_of : ℕ → Word × List ℕ → Spot × List ℕ
spot_of place read = ((place, read.0), read.1)

-- the next word of a rule of which so many bytes are left to the end, if it has one
abbrev pub next_at : (end : ℕ) → List ℕ → Result (Option (Spot × List ℕ)) Fault
next_at end [] = Ok None
next_at end (b ∷ bs) = seen (λ read. Some (spot_of (end - length (b ∷ bs)) read))
    (at (end - length (b ∷ bs)) (word_at (b ∷ bs)))

-- the words from one on, once it is read
abbrev pub words_after : Option (Spot × List ℕ) → (List ℕ → Result (List Spot) Fault)
    → Result (List Spot) Fault
words_after None more = Ok []
words_after (Some read) more = more read.1 >>= λ spots. Ok (read.0 ∷ spots)

-- no word is left
abbrev pub no_word : Option (Spot × List ℕ) → Result (List Spot) Fault
no_word None = Ok []
no_word (Some read) = Err (record { place = read.0.0; problem = problems.Long })

abbrev pub end_of : Result (Option (Spot × List ℕ)) Fault → Result (List Spot) Fault
end_of next = next >>= no_word

-- the words of a text, at most so many
abbrev pub words_from : ℕ → (end : ℕ) → List ℕ → Result (List Spot) Fault
words_from zero end text = end_of (next_at end (trim_start text))
words_from (suc left) end text =
    next_at end (trim_start text) >>= λ read. words_after read (words_from left end)

-- how many words a rule may have
unfoldable pub limit : ℕ
limit = 1000

-- the words of a rule
abbrev pub words_of : List ℕ → Result (List Spot) Fault
words_of rule = words_from limit (length rule) rule

-- what a function returned, as it is seen, is what reading gives, unless memory ran out
abbrev pub Gives : {X Y : Type 0} → (X → Y) → Result X ParseError → Result Y Fault → Type 0
Gives view (Ok x) read = read ≡ Ok (view x)
Gives view (Err (Broken fault)) read = read ≡ Err fault
Gives view (Err NoMemory) read = ⊤

-- a token at its place and what is left, borrows aside
abbrev pub as_next : Placed × Rest → Spot × List ℕ
as_next next = (as_spot next.0, next.1.text.now)
