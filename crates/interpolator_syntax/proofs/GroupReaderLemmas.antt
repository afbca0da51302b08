-- The reader of a group is local.
use Rattle.std.proofs.Common.{◌≡◌, ℕ, zero, suc, ◌+◌, eqb, List, [], ◌∷◌, ◌++◌, length, arith, refl}
use Rattle.std.proofs.Common.{Some, append_assoc, Option, append-nil}
use Rattle.interpolator_syntax.specs.Groups.{close_from, closed_group, bracket_first, bracket_at}
use Rattle.interpolator_syntax.specs.Groups.{group_at}
use Rattle.interpolator_syntax.specs.GroupGrammar.{sign_text, close_text, NoneCloses}
use Rattle.interpolator_syntax.specs.{Places.At, Classes.open_bracket, Classes.close_bracket}
use Rattle.interpolator_syntax.specs.{Moved.moved_group, declared.class.Class.TheVariants.Hash}
use Rattle.interpolator_syntax.proofs.GrammarGroupLemmas.{IsClose, Closes, close_says, only_close}
use Rattle.interpolator_syntax.proofs.GrammarGroupLemmas.{only_no_close, close_size}
use Rattle.interpolator_syntax.proofs.LocalLemmas.{Setting, elsewhere, IsLocal, Reads, local_past}
use Rattle.interpolator_syntax.proofs.LocalLemmas.{local_either, local_first, reads_then}
use Rattle.interpolator_syntax.proofs.{LocalityLemmas.Takes, SimpleReaderLemmas.reads_span}

-- signs in front of a bracket are the same whatever comes after the bracket
signs_before :
    (k : ℕ) (cs after more rest : List ℕ) → cs ++ (close_bracket ∷ after) ≡ sign_text k ++ rest
    → (left : List ℕ) × (cs ++ (close_bracket ∷ more) ≡ sign_text k ++ left)
signs_before zero cs after more rest e = (cs ++ (close_bracket ∷ more), refl)
signs_before (suc k) [] after more rest e = absurd (grind (arith, e))
signs_before (suc k) (c ∷ cs) after more rest e =
    let s = signs_before k cs after more rest (cc) in (s.0, grind (arith, e, s.1))

-- if no bracket of a text closes, none does whatever comes after the bracket that closes the text
none_closes_with :
    (k : ℕ) (inner after more : List ℕ) → NoneCloses k inner (close_bracket ∷ after)
    → NoneCloses k inner (close_bracket ∷ more)
none_closes_with k inner after more h front cs rest e f =
    let s = signs_before k cs more after rest f in h front cs s.0 e s.1

-- a text that closes closes there elsewhere, whatever comes after it
close_elsewhere :
    (s : Setting) (k p : ℕ) (cs : List ℕ) (w : List ℕ × At) → IsClose k p cs w.0 w.1
    → close_from k (p + s.by) (cs ++ s.more) ≡ Some (w.0, elsewhere s w.1)
close_elsewhere s k p cs w h =
    let rest = sign_text k ++ (w.1.text ++ s.more) in
    let none = none_closes_with k w.0 (sign_text k ++ w.1.text) rest h.first in
    grind (arith, append_assoc, only_close k (p + s.by) w.0 (w.1.text ++ s.more) none, h)

-- the text up to where it closes is a front of the text
close_takes :
    (k : ℕ) (a : At) (inner : List ℕ) (q : At) → IsClose k a.place a.text inner q → Takes a q
close_takes k a inner q h = record {
  front = inner ++ close_text k;
  split = rw append_assoc h.split;
  place = omega (arith, h.place, close_size inner k);
}

module _ (s : Setting) where
  local_close :
      (k : ℕ) (a : At) (o : Option (List ℕ × At)) → Closes k a.place a.text o
      → IsLocal s (moved_group s.by) a (closed_group s.start a.place o)
      (closed_group (s.start + s.by) (a.place + s.by)
      (close_from k (a.place + s.by) (a.text ++ s.more)))
  local_close k a o is = grind (arith, close_takes, close_elsewhere s, only_no_close, append-nil)

  reads_bracket :
      (k : ℕ) → Reads s (moved_group s.by) (bracket_at s.start k) (bracket_at (s.start + s.by) k)
  reads_bracket k = record {
    is_local = λ a.
        let move = moved_group s.by in
        local_first s move a.place a.text (bracket_first s.start k a)
        (bracket_first (s.start + s.by) k (elsewhere s a)) (grind arith)
        (λ c rest t.
        local_either s move a (eqb c open_bracket) _ _ _ _
        (local_past s move a rest _ _ _ t (λ settled. refl)
        (local_close k rest _ (close_says k rest.place rest.text))) (grind arith));
  }

  pub reads_group : Reads s (moved_group s.by) (group_at s.start) (group_at (s.start + s.by))
  unfolding group_at
  reads_group = reads_then _ (reads_span s Hash) (λ signs. reads_bracket (length signs))
