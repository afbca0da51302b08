-- An expression is read as it is written.
use Rattle.std.proofs.Common.{◌≡◌, ◌≤◌, ◌+◌, ◌∙◌, ℕ, arith, refl, ap, List, [], ◌∷◌, ◌++◌, Result}
use Rattle.std.proofs.Common.{Ok, append_assoc}
use Rattle.std.proofs.lemmas.Bool.Decides.{nat_tests}
use Rattle.plurals.specs.Readings.{Frame, State, asking, choosing, close_from, finish, grip, has}
use Rattle.plurals.specs.Readings.{closed, joining, negating, opened, step, wants}
use Rattle.plurals.specs.Tokens.{Word, between, close_bracket, colon, modulo, question, ◌>>=◌}
use Rattle.plurals.specs.Trees.{IsBound, Tree, alike, chosen, counted, grouped, joined, level}
use Rattle.plurals.specs.Trees.{named, negated, reduced, spelling, strength, unlike}
use Rattle.plurals.specs.declared.expression.Operator.TheVariants.{Or, And, Equal, Unequal, Less}
use Rattle.plurals.specs.declared.expression.Operator.TheVariants.{LessOrEqual, Greater}
use Rattle.plurals.specs.declared.expression.Operator.TheVariants.{GreaterOrEqual}
use Rattle.plurals.specs.{declared.expression.Operator.Operator, declared.fault.Problem.Problem}

-- how tightly the last part has to bind
abbrev pub wanted : List Frame → ℕ
wanted [] = 1
wanted (negating ∷ below) = 7
wanted (opened ∷ below) = 1
wanted (joining a operator ∷ below) = strength operator + 1
wanted (asking a ∷ below) = 1
wanted (choosing a b ∷ below) = 1

-- where the reading stands after an expression: the last part of its last part, and so on, is there
abbrev pub after : List Frame → Tree → State
after stack (negated a) = after (negating ∷ stack) a
after stack (joined operator a b) = after (joining a operator ∷ stack) b
after stack (chosen a b c) = after (choosing a b ∷ stack) c
after stack last = has stack last

pub strength_bounds : (operator : Operator) → (2 ≤ strength operator) × (strength operator ≤ 5)
strength_bounds Or = (omega arith, omega arith)
strength_bounds And = (omega arith, omega arith)
strength_bounds Equal = (omega arith, omega arith)
strength_bounds Unequal = (omega arith, omega arith)
strength_bounds Less = (omega arith, omega arith)
strength_bounds LessOrEqual = (omega arith, omega arith)
strength_bounds Greater = (omega arith, omega arith)
strength_bounds GreaterOrEqual = (omega arith, omega arith)

pub level_bounds : (a : Tree) → (1 ≤ level a) × (level a ≤ 7)
level_bounds (named text) = (omega arith, omega arith)
level_bounds (counted n) = (omega arith, omega arith)
level_bounds (alike tested text) = (omega arith, omega arith)
level_bounds (unlike tested text) = (omega arith, omega arith)
level_bounds (negated a) = (omega arith, omega arith)
level_bounds (grouped a) = (omega arith, omega arith)
level_bounds (reduced a n) = (omega arith, omega arith)
level_bounds (joined operator a b) =
    let bounds = strength_bounds operator in (omega (arith, bounds.0), omega (arith, bounds.1))
level_bounds (chosen a b c) = (omega arith, omega arith)

-- there is an operand then, and what is closed is what would be with the whole expression
pub record Stands (stack : List Frame) (a : Tree) : Type 0 where
  pub below : List Frame
  pub last : Tree
  pub is : after stack a ≡ has below last
  pub closes : (least : ℕ) → least ≤ level a → close_from least below last ≡ close_from least stack a

whole : (stack : List Frame) (a : Tree) → after stack a ≡ has stack a → Stands stack a
whole stack a e = record { below = stack; last = a; is = e; closes = λ least low. refl }

-- what waits is closed if it binds tightly enough
pub closes_one : (least : ℕ) (frame : Frame) (stack : List Frame) (a b : Tree) → least ≤ grip frame
    → b ≡ closed frame a → close_from least (frame ∷ stack) a ≡ close_from least stack b
closes_one least frame stack a b low e = grind (arith, nat_tests)

through : (frame : Frame) (stack : List Frame) (a b : Tree) → IsBound a → grip frame ≤ level a
    → level b ≤ grip frame → b ≡ closed frame a → after stack b ≡ after (frame ∷ stack) a
    → Stands (frame ∷ stack) a → Stands stack b
through frame stack a b bound tight same e goes stands = record {
  below = stands.below;
  last = stands.last;
  is = goes ∙ stands.is;
  closes = λ least low. stands.closes least (omega (arith, low, same, tight))
      ∙ closes_one least frame stack a b (omega (arith, low, same)) e;
}

pub stands : (stack : List Frame) (a : Tree) → IsBound a → Stands stack a
stands stack (named text) bound = whole stack (named text) refl
stands stack (counted n) bound = whole stack (counted n) refl
stands stack (negated a) bound = through negating stack a (negated a) bound.0 bound.1 (omega arith)
    refl refl (stands (negating ∷ stack) a bound.0)
stands stack (grouped a) bound = whole stack (grouped a) refl
stands stack (reduced a n) bound = whole stack (reduced a n) refl
stands stack (joined operator a b) bound = through (joining a operator) stack b (joined operator a b)
    bound.2 (omega (arith, bound.3)) (omega arith) refl refl
    (stands (joining a operator ∷ stack) b bound.2)
stands stack (alike tested text) bound = whole stack (alike tested text) refl
stands stack (unlike tested text) bound = whole stack (unlike tested text) refl
stands stack (chosen a b c) bound = through (choosing a b) stack c (chosen a b c) bound.3
    (level_bounds c).0 (omega arith) refl refl (stands (choosing a b ∷ stack) c bound.3)

-- what binds less tightly is not closed
stops : (least : ℕ) (stack : List Frame) (a : Tree) → wanted stack ≤ least → 2 ≤ least → least ≤ 6
    → close_from least stack a ≡ (stack, a)
stops least [] a w low high = refl
stops least (negating ∷ below) a w low high = absurd (omega (arith, w, high))
stops least (opened ∷ below) a w low high = grind (arith, nat_tests)
stops least (joining b operator ∷ below) a w low high = grind (arith, nat_tests)
stops least (asking b ∷ below) a w low high = grind (arith, nat_tests)
stops least (choosing b c ∷ below) a w low high = grind (arith, nat_tests)

-- word by word
abbrev pub runs : State → List Word → Result State Problem
runs state [] = Ok state
runs state (word ∷ words) = step state word >>= λ next. runs next words

module _ (stack : List Frame) (a : Tree) (bound : IsBound a) where
  -- what comes after an expression that is the last part of nothing tighter
  past_operator : (operator : Operator) → strength operator ≤ level a
      → wanted stack ≤ strength operator
      → step (after stack a) (between operator) ≡ Ok (wants (joining a operator ∷ stack))
  past_operator operator tight loose =
      let s = stands stack a bound in
      let bounds = strength_bounds operator in
      let e = s.closes (strength operator) tight
      ∙ stops (strength operator) stack a loose bounds.0 (omega (arith, bounds.1)) in
      grind (arith, s.is, e)

  past_modulo : (n : ℕ) → 6 ≤ level a → wanted stack ≤ 6
      → step (after stack a) (modulo n) ≡ Ok (has stack (reduced a n))
  past_modulo n tight loose =
      let s = stands stack a bound in
      let e = s.closes 6 tight ∙ stops 6 stack a loose (omega arith) (omega arith) in
      grind (arith, s.is, e)

  past_question : 2 ≤ level a → wanted stack ≤ 1
      → step (after stack a) question ≡ Ok (wants (asking a ∷ stack))
  past_question tight loose =
      let s = stands stack a bound in
      let e = s.closes 2 tight ∙ stops 2 stack a (omega (arith, loose)) (omega arith) (omega arith) in
      grind (arith, s.is, e)

  past_colon : (b : Tree) → step (after (asking b ∷ stack) a) colon
      ≡ Ok (wants (choosing b a ∷ stack))
  past_colon b =
      let s = stands (asking b ∷ stack) a bound in
      let e = s.closes 1 (level_bounds a).0 in
      grind (arith, s.is, e)

  past_bracket : step (after (opened ∷ stack) a) close_bracket ≡ Ok (has stack (grouped a))
  past_bracket =
      let s = stands (opened ∷ stack) a bound in
      let e = s.closes 1 (level_bounds a).0 in
      grind (arith, s.is, e)

-- an expression is read as it is written, whatever follows
pub reads : (stack : List Frame) (a : Tree) (rest : List Word) → IsBound a → wanted stack ≤ level a
    → runs (wants stack) (spelling a ++ rest) ≡ runs (after stack a) rest
reads stack (named text) rest bound loose = refl
reads stack (counted n) rest bound loose = refl
reads stack (alike tested text) rest bound loose = refl
reads stack (unlike tested text) rest bound loose = refl
reads stack (negated a) rest bound loose = reads (negating ∷ stack) a rest bound.0 bound.1
reads stack (grouped a) rest bound loose =
    rw (append_assoc (spelling a) (close_bracket ∷ []) rest) (
    reads (opened ∷ stack) a (close_bracket ∷ rest) bound (level_bounds a).0
    ∙ ap (λ r. r >>= λ next. runs next rest) (past_bracket stack a bound))
reads stack (reduced a n) rest bound loose =
    rw (append_assoc (spelling a) (modulo n ∷ []) rest) (
    reads stack a (modulo n ∷ rest) bound.0 (omega (arith, bound.1, loose))
    ∙ ap (λ r. r >>= λ next. runs next rest) (past_modulo stack a bound.0 n bound.1 loose))
reads stack (joined operator a b) rest bound loose =
    rw (append_assoc (spelling a) (between operator ∷ spelling b) rest) (
    reads stack a (between operator ∷ (spelling b ++ rest)) bound.0 (omega (arith, bound.1, loose))
    ∙ ap (λ r. r >>= λ next. runs next (spelling b ++ rest))
    (past_operator stack a bound.0 operator bound.1 loose)
    ∙ reads (joining a operator ∷ stack) b rest bound.2 (omega (arith, bound.3)))
reads stack (chosen a b c) rest bound loose =
    rw (
      append_assoc (spelling a) (question ∷ (spelling b ++ (colon ∷ spelling c))) rest,
      append_assoc (spelling b) (colon ∷ spelling c) rest,
    ) (
    reads stack a (question ∷ (spelling b ++ (colon ∷ (spelling c ++ rest)))) bound.0
    (omega (arith, bound.1, loose))
    ∙ ap (λ r. r >>= λ next. runs next (spelling b ++ (colon ∷ (spelling c ++ rest))))
    (past_question stack a bound.0 bound.1 loose)
    ∙ reads (asking a ∷ stack) b (colon ∷ (spelling c ++ rest)) bound.2 (level_bounds b).0
    ∙ ap (λ r. r >>= λ next. runs next (spelling c ++ rest)) (past_colon stack b bound.2 a)
    ∙ reads (choosing a b ∷ stack) c rest bound.3 (level_bounds c).0)

-- and at the end it is there
pub finishes : (a : Tree) → IsBound a → finish (after [] a) ≡ Ok a
finishes a bound =
    let s = stands [] a bound in
    let e = s.closes 1 (level_bounds a).0 in
    grind (arith, s.is, e)
