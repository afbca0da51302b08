-- A reader is local: it takes a front of its text, its faults lie there, and elsewhere it returns
-- the same; and so are readers that are put together of local ones.
use Rattle.std.proofs.Common.{◌≡◌, ℕ, ◌+◌, ◌≤◌, Bool, cond, List, [], ◌∷◌, ◌++◌, arith, refl, ◌∙◌}
use Rattle.std.proofs.Common.{Result, Ok, Err, Option, Some, None, inl, inr, ◌⊎◌, eqb-true}
use Rattle.std.specs.Char.{len_utf8}
use Rattle.interpolator_syntax.specs.Places.{At, size, first, first_of, strip_of}
use Rattle.interpolator_syntax.specs.Readers.{Reader, on, ◌>>=◌}
use Rattle.interpolator_syntax.specs.Faults.{Fault, fault_place}
use Rattle.interpolator_syntax.specs.{ArgumentFaults.IsArgumentFault, Moved.moved_fault}
use Rattle.interpolator_syntax.proofs.LocalityLemmas.{Takes, stands, takes_none, takes_one, Guarded}
use Rattle.interpolator_syntax.proofs.LocalityLemmas.{takes_then, takes_reaches, takes_guards}

-- the argument that is read begins at `start`; elsewhere the same text is `by` bytes further on,
-- with more after it
pub record Setting : Type 0 where
  pub start : ℕ
  pub by : ℕ
  pub more : List ℕ

-- a text that has not moved, and nothing after it
abbrev pub still : ℕ → Setting
still start = record { start = start; by = 0; more = [] }

-- a step after a move is a move after the step
pub step_moved : (p by n : ℕ) → (p + by) + n ≡ (p + n) + by
step_moved p by n = omega arith

-- what is read stays as it is
abbrev pub stays : {A : Type 0} → A → A
stays x = x

module _ (s : Setting) where
  abbrev pub elsewhere : At → At
  elsewhere a = record { place = a.place + s.by; text = a.text ++ s.more }

  -- what follows the text changes nothing: a closing brace is left in front of it, or nothing
  -- follows it
  abbrev pub IsSettled : List ℕ → Type 0
  IsSettled cs = Guarded cs ⊎ (s.more ≡ [])

  pub nothing_more : IsSettled [] → s.more ≡ []
  nothing_more h1 = grind arith

  settled_before : (a q : At) → Takes a q → IsSettled q.text → IsSettled a.text
  settled_before a q h (inl guard) = inl (takes_guards a q h guard)
  settled_before a q h (inr e) = inr e

  -- what was read at a ends after a front of the text and, elsewhere, is the same moved
  abbrev pub IsLocalValue :
      {A : Type 0} → (A → A) → (a : At) → (x : A) → (q : At) → (other : Result (A × At) Fault)
      → Type 0
  IsLocalValue move a x q other =
      Takes a q × (IsSettled q.text → other ≡ Ok (move x, elsewhere q))

  -- a fault at a is one that an argument can have, lies in it and, elsewhere, is the same moved
  abbrev pub IsLocalFault :
      {A : Type 0} → (a : At) → (f : Fault) → (other : Result (A × At) Fault) → Type 0
  IsLocalFault a f other =
      IsArgumentFault f × (s.start ≤ a.place → s.start ≤ fault_place f)
      × (s.start ≤ a.place → fault_place f ≤ a.place + size a.text)
      × (s.more ≡ [] → other ≡ Err (moved_fault s.by f))

  -- a result at a is local, where `other` is the result elsewhere and `move` moves what was read
  abbrev pub IsLocal :
      {A : Type 0} → (A → A) → (a : At) → (answer other : Result (A × At) Fault) → Type 0
  IsLocal move a (Ok w) other = IsLocalValue move a w.0 w.1 other
  IsLocal move a (Err f) other = IsLocalFault a f other

  -- a reader of an argument is local, where `other` reads elsewhere: what it takes is a front
  -- of the text; a fault is one that an argument can have, and lies in the text; and the result
  -- moves with the text, whatever follows a closing brace that is not passed
  pub record Reads {A : Type 0} (move : A → A) (read other : Reader A) : Type 0 where
    pub is_local : (a : At) → IsLocal move a (read a) (other (elsewhere a))

  -- ---- results

  module _ {A : Type 0} (move : A → A) (a : At) where
    -- nothing is taken
    pub local_stay : (x : A) → IsLocal move a (Ok (x, a)) (Ok (move x, elsewhere a))
    local_stay x = grind (arith, takes_none)

    -- a result after a front
    pub local_past :
        (b : At) (o k l : Result (A × At) Fault) → Takes a b → (IsSettled b.text → l ≡ k)
        → IsLocal move b o k → IsLocal move a o l
    local_past b (Ok w) k l h e r =
        (takes_then a b w.1 h r.0, λ t. e (settled_before b w.1 r.0 t) ∙ r.1 t)
    local_past b (Err d) k l h e r = let ends = takes_reaches _ a b h refl in grind (arith, e, ends)

    -- a test decides
    pub local_either :
        (t : Bool) (o k p l : Result (A × At) Fault) → IsLocal move a o k → IsLocal move a p l
        → IsLocal move a (cond t o p) (cond t k l)
    local_either t o k p l h g = grind arith

  -- after a result the next, if it is local to the text at a, where l is the result elsewhere
  pub local_through :
      {A B : Type 0} (move : A → A) (next : B → B) (a : At) (o k : Result (A × At) Fault)
      (g h : A → Reader B) → IsLocal move a o k
      → ((x : A) (b : At) (l : Result (B × At) Fault) → Takes a b
      → (IsSettled b.text → l ≡ h (move x) (elsewhere b)) → IsLocal next a (g x b) l)
      → IsLocal next a (on o g) (on k h)
  local_through move next a o k g h kept r = grind arith

  -- after a result the next reader
  pub local_then :
      {A B : Type 0} (move : A → A) (next : B → B) (a : At) (o k : Result (A × At) Fault)
      (g h : A → Reader B) → IsLocal move a o k
      → ((x : A) (b : At) → Takes a b → IsLocal next b (g x b) (h (move x) (elsewhere b)))
      → IsLocal next a (on o g) (on k h)
  local_then move next a o k g h kept r = grind (arith, local_through, local_past)

  -- ---- readers that decide by the first character

  module _ {A : Type 0} (move : A → A) where
    -- a result by the first character, if there is one
    pub local_first :
        (p : ℕ) (cs : List ℕ) (f g : Option (ℕ × At) → Result (A × At) Fault)
        → IsLocal move (stands p cs) (f None) (g None)
        → ((c : ℕ) (b : At) → Takes (stands p cs) b
        → IsLocal move (stands p cs) (f (Some (c, b))) (g (Some (c, elsewhere b))))
        → IsLocal move (stands p cs) (f (first_of p cs)) (g (first_of (p + s.by) (cs ++ s.more)))
    local_first p [] f g none some =
        local_past move (stands p []) (stands p []) (f None) (g None) _ (takes_none _)
        (λ t. rw (nothing_more t) refl) none
    local_first p (c ∷ cs) f g none some =
        rw (step_moved p s.by (len_utf8 c)) (some c (stands (p + len_utf8 c) cs) (takes_one p c cs))

    -- a result at a by whether c begins the text cs, which ends where the text at a does
    pub local_strip_at :
        (a : At) (c p : ℕ) (cs : List ℕ) (f g : Option At → Result (A × At) Fault)
        → (IsSettled a.text → IsSettled cs)
        → IsLocal move a (f None) (g None)
        → ((b : At) → cs ≡ c ∷ b.text → Takes (stands p cs) b
        → IsLocal move a (f (Some b)) (g (Some (elsewhere b))))
        → IsLocal move a (f (strip_of c p cs)) (g (strip_of c (p + s.by) (cs ++ s.more)))
    local_strip_at a c p [] f g settled none some =
        let still = local_past move a a (f None) (g None) in
        grind (arith, still, takes_none a, nothing_more, settled, none)
    local_strip_at a c p (d ∷ ds) f g settled none some =
        rw (step_moved p s.by (len_utf8 d)) (grind (arith, eqb-true, none, some, takes_one p d ds))

    -- a result by whether the first character is c
    pub local_strip :
        (c p : ℕ) (cs : List ℕ) (f g : Option At → Result (A × At) Fault)
        → IsLocal move (stands p cs) (f None) (g None)
        → ((b : At) → cs ≡ c ∷ b.text → Takes (stands p cs) b
        → IsLocal move (stands p cs) (f (Some b)) (g (Some (elsewhere b))))
        → IsLocal move (stands p cs) (f (strip_of c p cs))
        (g (strip_of c (p + s.by) (cs ++ s.more)))
    local_strip c p cs f g = grind (arith, local_strip_at, stands)

-- ---- readers

module _ {s : Setting} {A : Type 0} {move : A → A} {read other : Reader A}
    (h : Reads s move read other) where
  -- what was read
  pub value_local : (a : At) (x : A) (q : At) → read a ≡ Ok (x, q)
      → IsLocalValue s move a x q (other (elsewhere s a))
  value_local a x q e = grind arith

  -- why nothing was read
  pub fault_local : (a : At) (f : Fault) → read a ≡ Err f
      → IsLocalFault s a f (other (elsewhere s a))
  fault_local a f e = grind arith

-- a reader after a front
pub local_on :
    {s : Setting} {A : Type 0} {move : A → A} {read other : Reader A} → Reads s move read other
    → (a b : At) → Takes a b → IsLocal s move a (read b) (other (elsewhere s b))
local_on {s} {A} {move} {read} {other} h a b t =
    local_past s move a b (read b) (other (elsewhere s b)) _ t (λ settled. refl) (h.is_local b)

-- one reader, and after it the next
pub reads_then :
    {s : Setting} {A B : Type 0} {move : A → A} {next : B → B} {read other : Reader A}
    {g : A → Reader B} (h : A → Reader B) → Reads s move read other
    → ((x : A) → Reads s next (g x) (h (move x))) → Reads s next (read >>= g) (other >>= h)
reads_then {s} {next = next} h first then =
    grind (arith, first.is_local, then, local_then s)
