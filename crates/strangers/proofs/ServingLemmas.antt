-- What rejects a format, and that nothing is left to fail if nothing does.
use Rattle.std.proofs.Common.{◌≡◌, ◌∙◌, ap, refl, inl, inr, ℕ, ◌-◌, ◌^◌, Bool, true, false, List}
use Rattle.std.proofs.Common.{[], ◌∷◌, min, arith, if◌then◌else◌, Option, Some, None}
use Rattle.std.proofs.lemmas.Bool.Decides.{nat_tests}
use Rattle.std.specs.Option.{option_or}
use Rattle.interpolator_render.specs.Bounds.{BoundedText, bounded, bounded_writer}
use Rattle.interpolator.specs.Faults.{Answer, Fault, no_memory}
use Rattle.interpolator.specs.{Meaning.Meanings.Meaning, Meaning.Outcomes.Outcome, Writers.Written}
use Rattle.interpolator.specs.{Template.NodeChecks.first_fault, Template.NodeCosts.usize_cost}
use Rattle.interpolator.specs.declared.Cost.{Cost}
use Rattle.strangers.specs.Serving.{Affords, IsWithin, Why, cost_why, count_why}
use Rattle.strangers.specs.declared.serving.Count.{Count}

-- if no fault is meant and the writer did not refuse, no fault is left
pub only_memory : (m : Meaning) (old new : Written) (answer : Answer) → m.fault ≡ None
    → new.refused ≡ false → Outcome m old new (Some answer) → answer ≡ no_memory
only_memory m old new answer sound down (inl done) = let reported = rw sound at done.reported in cc
only_memory m old new answer sound down (inr (inl refusal)) = let flag = refusal.flag in cc
only_memory m old new answer sound down (inr (inr wants)) = let reported = wants.reported in cc

-- each outcome keeps the bound, if the memory for it is ready
origin_kept : (m : Meaning) (old new : Written) (reported : Option Answer) → Outcome m old new reported
    → new.origin ≡ old.origin
origin_kept m old new reported (inl finished) = finished.all.same_origin
origin_kept m old new reported (inr (inl refused)) = refused.same_origin
origin_kept m old new reported (inr (inr wants)) = wants.begun.same_origin

bound_by : (ready : Bool) (most bytes : ℕ) → (if ready then Some most else None) ≡ Some bytes
    → most ≡ bytes
bound_by true most bytes is = grind arith
bound_by false most bytes is = grind arith

pub bound_kept : (m : Meaning) (old new : BoundedText) (reported : Option Answer) (bytes : ℕ)
    → (bounded_writer old).origin ≡ bounded bytes true
    → Outcome m (bounded_writer old) (bounded_writer new) reported → new.most ≡ bytes
bound_kept m old new reported bytes begun outcome =
    bound_by new.ready new.most bytes (ap (λ origin. origin.bound)
    (origin_kept m (bounded_writer old) (bounded_writer new) reported outcome ∙ begun))

-- no first fault is no fault
pub no_first : (fs : List Fault) → first_fault fs ≡ None → fs ≡ []
no_first [] e = refl
no_first (f ∷ fs) e = cc

-- neither of two rejects
pub neither : (one other : Option Why) → option_or one other ≡ None
    → (one ≡ None) × (other ≡ None)
neither None other e = (refl, e)
neither (Some why) other e = cc

-- a count that is not rejected is within its limit
count_within : (count : Count) (n limit : ℕ) → count_why count (min n (2 ^ 64 - 1)) limit ≡ None
    → IsWithin (min n (2 ^ 64 - 1)) limit
count_within count n limit h = (grind (arith, nat_tests, h), grind (arith, nat_tests, h))

-- so is a cost
pub afforded : (most cost : Cost) → cost_why most (usize_cost cost) ≡ None
    → Affords most (usize_cost cost)
afforded most cost e =
    let (first, others) = neither _ _ e in
    let (second, third) = neither _ _ others in
    record {
      characters = count_within _ cost.characters most.characters first;
      pieces = count_within _ cost.pieces most.pieces second;
      buffered = count_within _ cost.buffered most.buffered third;
    }
