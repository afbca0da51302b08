-- Which texts are groups, and why the others are not.
use Rattle.std.specs.Prelude.{◌≡◌, ◌≢◌, ℕ, zero, suc, ◌+◌, List, [], ◌∷◌, ◌++◌, codes}
use Rattle.interpolator_syntax.specs.Classes.{hash, open_bracket, close_bracket}
use Rattle.interpolator_syntax.specs.Faults.{Fault, parse, unclosed, expected}
use Rattle.interpolator_syntax.specs.{Places.At, Places.size, Groups.Group}

-- k signs `#`
abbrev pub sign_text : ℕ → List ℕ
sign_text zero = []
sign_text (suc k) = hash ∷ sign_text k

-- what opens a group: k signs and `(`
abbrev pub open_text : ℕ → List ℕ
open_text k = sign_text k ++ (open_bracket ∷ [])

-- what closes it: `)` and as many signs
abbrev pub close_text : ℕ → List ℕ
close_text k = close_bracket ∷ sign_text k

-- no `)` of the inner text has k signs right after it, if `after` follows that text
abbrev pub NoneCloses : (k : ℕ) → (inner after : List ℕ) → Type 0
NoneCloses k inner after =
    (front more rest : List ℕ) → inner ≡ front ++ (close_bracket ∷ more)
    → more ++ after ≢ sign_text k ++ rest

-- the group that begins at a, in front of the text at q: what opens it, the text, and what
-- closes it, at the first place where it can close
pub record IsGroup (a : At) (g : Group) (q : At) : Type 0 where
  pub k : ℕ
  pub split : a.text ≡ open_text k ++ (g.text ++ (close_text k ++ q.text))
  pub first : NoneCloses k g.text (close_text k ++ q.text)
  pub place : g.place ≡ a.place + size (open_text k)
  pub end_place : q.place ≡ g.place + size (g.text ++ close_text k)

-- why no group begins at a, in the argument that begins at `start`
pub data IsNoGroup (start : ℕ) (a : At) (f : Fault) : Type 0 where
  ends :
      (k : ℕ) → a.text ≡ sign_text k → f ≡ parse (unclosed start) → IsNoGroup start a f
  no_bracket :
      (k c : ℕ) (rest : List ℕ) → a.text ≡ sign_text k ++ (c ∷ rest) → c ≢ hash
      → c ≢ open_bracket → f ≡ parse (expected (codes "(") (a.place + size (sign_text k)))
      → IsNoGroup start a f
  no_end :
      (k : ℕ) (inner : List ℕ) → a.text ≡ open_text k ++ inner → NoneCloses k inner []
      → f ≡ parse (unclosed start) → IsNoGroup start a f
