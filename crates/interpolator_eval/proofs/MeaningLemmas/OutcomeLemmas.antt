-- One outcome after another.
use Rattle.std.proofs.Common.{arith, ◌≡◌, sym, ◌∙◌, ap, ◌+◌, List, ◌++◌, map, length, Option, None}
use Rattle.std.proofs.Common.{Some, inl, inr, append_assoc, length-append, Contains}
use Rattle.std.proofs.{lemmas.Grind.common_steps, lemmas.List.map-append, lemmas.List.length-map}
use Rattle.std.proofs.{Math.ListN.get_or-map, lemmas.List.Elements.Contains-append_right}
use Rattle.interpolator_render.proofs.LayoutLemmas.{appends_both}
use Rattle.interpolator_render.specs.Writers.{Written}
use Rattle.interpolator_syntax.specs.{Places.Placed, Places.text_of, Faults.Fault, Faults.Answer}
use Rattle.interpolator_eval.specs.Meaning.Meanings.{Meaning, or_fault, chain}
use Rattle.interpolator_eval.specs.Meaning.Outcomes.{Finished, Outcome}

text_of-append : (xs ys : Placed) → text_of (xs ++ ys) ≡ text_of xs ++ text_of ys
text_of-append xs ys = grind (arith, map-append)

-- of the three outcomes, only the first can be without a fault
pub finished_if_none : (m : Meaning) (old new : Written) → Outcome m old new None
    → Finished m old new None
finished_if_none m old new h = grind arith

-- and so what was written whole has no fault
pub no_fault : (m : Meaning) (old new : Written) → Outcome m old new None → m.fault ≡ None
no_fault m old new h = grind arith

Contains-map :
    {A B : Type 0} (f : A → B) (xs : List A) (x : A) → Contains xs x → Contains (map f xs) (f x)
Contains-map f xs x h = grind (arith, length-map, get_or-map)

-- after a meaning that was finished without a fault
pub after_finished :
    (m k : Meaning) (old mid new : Written) (answer : Option Answer) → Finished m old mid None
    → Outcome k mid new answer → Outcome (chain m k) old new answer
after_finished m k old mid new answer h (inl o) = rw (no_fault m old mid (inl h)) (inl (record {
  all = rw (text_of-append m.text k.text) (appends_both old mid new _ _ h.all o.all);
  reported = o.reported;
}))
after_finished m k old mid new answer h (inr (inl o)) = rw (no_fault m old mid (inl h))
    (inr (inl (record {
      front = m.text ++ o.front;
      c = o.c;
      place = o.place;
      back = o.back;
      split = ap (λ l. m.text ++ l) o.split ∙ sym (append_assoc m.text o.front _);
      appended = grind (arith, text_of-append, append_assoc);
      flag = o.flag;
      none_after_refusal = grind (arith, text_of-append);
      same_origin = o.same_origin ∙ h.all.same_origin;
      over = rw (h.all.same_origin, h.all.same_flag) at o.over;
      reported = o.reported;
    })))
after_finished m k old mid new answer h (inr (inr o)) = rw (no_fault m old mid (inl h))
    (inr (inr (record {
      front = m.text ++ o.front;
      back = o.back;
      split = ap (λ l. m.text ++ l) o.split ∙ sym (append_assoc m.text o.front _);
      point = rw (length-append m.text o.front) (Contains-append_right m.memory_points _ _
          (Contains-map (λ n. length m.text + n) k.memory_points _ o.point));
      begun = rw (text_of-append m.text o.front) (appends_both old mid new _ _ h.all o.begun);
      reported = o.reported;
    })))

-- a fault ends the run: what would come next is neither written nor read
pub before_fault :
    (m k : Meaning) (old new : Written) (q : Answer) (o : Option Fault) → m.fault ≡ o
    → Outcome m old new (Some q) → Outcome (or_fault o m k) old new (Some q)
before_fault m k old new q o e h = grind (arith, common_steps, append_assoc)
