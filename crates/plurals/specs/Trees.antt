-- An expression as a tree: how it is written, and how tightly its parts bind.
use Rattle.std.specs.Prelude.{◌≡◌, ◌≤◌, ◌<◌, ⊤, ℕ, List, [], ◌∷◌, ◌++◌}
use Rattle.plurals.specs.Tokens.{Word, bang, between, close_bracket, colon, modulo, name, number}
use Rattle.plurals.specs.Tokens.{equal_to, open_bracket, question, unequal_to}
use Rattle.plurals.specs.declared.expression.Expression.{Expression}
use Rattle.plurals.specs.declared.expression.Expression.TheVariants as made
use Rattle.plurals.specs.declared.expression.Operator.{Operator}
use Rattle.plurals.specs.declared.expression.Operator.TheVariants.{Or, And, Equal, Unequal, Less}
use Rattle.plurals.specs.declared.expression.Operator.TheVariants.{LessOrEqual, Greater}
use Rattle.plurals.specs.declared.expression.Operator.TheVariants.{GreaterOrEqual}

-- an expression: a name, a number, `!a`, `(a)`, `a % 10`, `a && b`, `a ? b : c`, or what compares a
-- name with a text, `a == 'b'` or `a != 'b'`
pub data Tree : Type 0 where
  named : List ℕ → Tree
  counted : ℕ → Tree
  negated : Tree → Tree
  grouped : Tree → Tree
  reduced : Tree → ℕ → Tree
  joined : Operator → Tree → Tree → Tree
  chosen : Tree → Tree → Tree → Tree
  alike : (name text : List ℕ) → Tree
  unlike : (name text : List ℕ) → Tree

-- an expression is written as its parts, one after the other
abbrev pub spelling : Tree → List Word
spelling (named text) = name text ∷ []
spelling (counted n) = number n ∷ []
spelling (negated a) = bang ∷ spelling a
spelling (grouped a) = open_bracket ∷ (spelling a ++ (close_bracket ∷ []))
spelling (reduced a n) = spelling a ++ (modulo n ∷ [])
spelling (joined operator a b) = spelling a ++ (between operator ∷ spelling b)
spelling (chosen a b c) = spelling a ++ (question ∷ (spelling b ++ (colon ∷ spelling c)))
spelling (alike tested text) = equal_to tested text ∷ []
spelling (unlike tested text) = unequal_to tested text ∷ []

-- how tightly an operator binds, as in C
abbrev pub strength : Operator → ℕ
strength Or = 2
strength And = 3
strength Equal = 4
strength Unequal = 4
strength Less = 5
strength LessOrEqual = 5
strength Greater = 5
strength GreaterOrEqual = 5

-- how tightly an expression binds: a choice least, then `||`, and so on up to `%`, and most tightly
-- what has no operator between two parts
abbrev pub level : Tree → ℕ
level (chosen a b c) = 1
level (joined operator a b) = strength operator
level (reduced a n) = 6
level _ = 7

-- each part binds tightly enough: of two operators that bind alike the left one is applied first,
-- and the last part of a choice may be a choice
abbrev pub IsBound : Tree → Type 0
IsBound (named text) = ⊤
IsBound (counted n) = ⊤
IsBound (negated a) = IsBound a × (7 ≤ level a)
IsBound (grouped a) = IsBound a
IsBound (reduced a n) = IsBound a × (6 ≤ level a)
IsBound (joined operator a b) =
    IsBound a × (strength operator ≤ level a) × IsBound b × (strength operator < level b)
IsBound (chosen a b c) = IsBound a × (2 ≤ level a) × IsBound b × IsBound c
IsBound (alike tested text) = ⊤
IsBound (unlike tested text) = ⊤

-- some words are an expression: they are how it is written, and each part binds tightly enough
abbrev pub Writes : List Word → Tree → Type 0
Writes words tree = (words ≡ spelling tree) × IsBound tree

-- the tree of an expression of the program
abbrev pub tree_of : Expression → Tree
tree_of (made.Name text) = named text.now
tree_of (made.Number n) = counted n
tree_of (made.Not' p a) = negated (tree_of a)
tree_of (made.Group' p a) = grouped (tree_of a)
tree_of (made.Remainder' p a n) = reduced (tree_of a) n
tree_of (made.Binary' operator p a q b) = joined operator (tree_of a) (tree_of b)
tree_of (made.Choice' p a q b r c) = chosen (tree_of a) (tree_of b) (tree_of c)
tree_of (made.Is tested text) = alike tested.now text.now
tree_of (made.IsNot tested text) = unlike tested.now text.now
