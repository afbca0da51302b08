-- What is written to a sink, one after another.
use Rattle.std.proofs.Common.{ap, length, length-append, rules, ◌≡◌, ℕ, [], ◌∷◌, Option, None, Some}
use Rattle.std.proofs.Common.{option_map, false, inl, inr, arith, refl}
use Rattle.interpolator_render.specs.{declared.view.Spec.Spec, Writers.Written}
use Rattle.interpolator_render.proofs.LayoutLemmas.{appends_none}
use Rattle.interpolator_syntax.specs.Places.{text_of}
use Rattle.interpolator_syntax.specs.Faults.{Fault, Answer, fault, no_memory}
use Rattle.interpolator_eval.specs.Meaning.Meanings.{Meaning, nothing, fault_alone, buffered_means}
use Rattle.interpolator_eval.specs.Meaning.Meanings.{chain, fault_wanting_memory}
use Rattle.interpolator_eval.specs.Meaning.Sinks.{IsWriter, SameEnd, Writes, taken_by}
use Rattle.interpolator_eval.specs.{Meaning.Outcomes.Outcome, declared.evaluate.sink.Sink.Sink}
use Rattle.interpolator_eval.proofs.MeaningLemmas.OutcomeLemmas.{finished_if_none, after_finished}
use Rattle.interpolator_eval.proofs.MeaningLemmas.OutcomeLemmas.{before_fault}

pub and_then :
    (m k : Meaning) (s t u : Written) (answer : Option Answer) → Outcome m s t None
    → Outcome k t u answer → Outcome (chain m k) s u answer
and_then m k s t u answer h o = search (rules, after_finished, finished_if_none)

pub fault_first :
    (m k : Meaning) (s t : Written) (q : Answer) → Outcome m s t (Some q)
    → Outcome (chain m k) s t (Some q)
fault_first m k s t q h = grind (arith, before_fault)

-- if no text is meant, nothing is written
stops : (m : Meaning) (s : Written) (answer : Option Answer) → m.text ≡ []
    → answer ≡ option_map fault m.fault → Outcome m s s answer
stops m s answer none reported = grind (arith, appends_none)

pub nothing_done : (s : Written) → Outcome nothing s s None
nothing_done s = grind (arith, stops)

pub ended : (f : Fault) (s : Written) → Outcome (fault_alone f) s s (Some (fault f))
ended f s = grind (arith, stops)

-- if nothing is meant, no fault is returned
pub nothing_fails : (s t : Written) (q : Answer) → Outcome nothing s t (Some q) → ⊥
nothing_fails s t q (inl k) = let reported = k.reported in cc
nothing_fails s t q (inr (inl k)) =
    omega (arith, ap length k.split, length-append k.front ((k.c, k.place) ∷ k.back))
nothing_fails s t q (inr (inr k)) = omega (arith, k.point.1)

pub same_end : {W : Type 0} (s : Sink W) → SameEnd s s
same_end s = grind arith

pub same_then : {W : Type 0} (s t u : Sink W) → SameEnd s t → SameEnd t u → SameEnd s u
same_then s t u h k = grind arith

pub writer_stays : {W : Type 0} (s t : Sink W) → IsWriter s → SameEnd s t → IsWriter t
writer_stays s t writer same = grind arith

-- the whole goes on from what was written so far
pub goes_on :
    {W : Type 0} (written : W → Written) (m k : Meaning) (s t u : Sink W) (answer : Option Answer)
    → ((new : Written) (r : Option Answer) → Outcome k (taken_by written t) new r
    → Outcome m (taken_by written s) new r)
    → SameEnd s t → Writes written k t u answer → Writes written m s u answer
goes_on written m k s t u answer so_far same o = grind (arith, same_then)

-- ---- a text that is made whole in a buffer, and then written

module _ (spec : Spec) (q : ℕ) where
  pub whole_refused : (m : Meaning) (out : Written)
      → Outcome (buffered_means spec q m.fault (text_of m.text)) out out (Some no_memory)
  whole_refused m out = grind (arith, appends_none)

  -- what was made went to the buffer `now`, which was `empty`, up to its fault; nothing goes to `out`
  pub whole_fault : (m : Meaning) (out empty now : Written) (f : Answer) → now.refused ≡ false
      → Outcome m empty now (Some f)
      → Outcome (buffered_means spec q m.fault (text_of m.text)) out out (Some f)
  whole_fault m out empty now f kept (inl o) = reported m.fault o.reported
    where
      reported : (g : Option Fault) → Some f ≡ option_map fault g
          → Outcome (buffered_means spec q g (text_of m.text)) out out (Some f)
      reported None e = absurd (let same = e in cc)
      reported (Some x) e = stops (fault_wanting_memory x) out (Some f) refl e
  whole_fault m out empty now f kept (inr (inl o)) = absurd (let set = o.flag in cc)
  whole_fault m out empty now f kept (inr (inr o)) = rw o.reported (whole_refused m out)
