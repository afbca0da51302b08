-- A piece that is kept fits its text, and means its node.
use Rattle.std.proofs.Common.{arith, ◌≡◌, ap, sym, ℕ, true, Option, None, Some, IsSome}
use Rattle.std.specs.Prelude.{if◌then◌else◌}
use Rattle.interpolator_render.specs.{declared.view.Trait.Trait, declared.view.Spec.Spec}
use Rattle.interpolator_render.specs.Views.{Shown}
use Rattle.interpolator_syntax.specs.Nodes.{Node}
use Rattle.interpolator_eval.specs.{Slots.Slots, Meaning.Environments.Environment}
use Rattle.interpolator_eval.specs.Meaning.Meanings.{node_means}
use Rattle.interpolator_pieces.specs.Stored.{node_whole}
use Rattle.interpolator_prepared.specs.Programs.{whole_step}
use Rattle.interpolator_prepared.specs.StoredSteps.{fitting_means, kept_step}
use Rattle.interpolator_prepared.proofs.ListMeaningLemmas.{whole_means}

-- a node that fits its text is a step
pub kept_is : (n : Node) → node_whole n ≡ true → kept_step n ≡ Some (whole_step n)
kept_is n whole = ap (λ b. if b then Some (whole_step n) else None) whole

-- and a node that is a step fits its text
pub kept_whole : (n : Node) → IsSome (kept_step n) → node_whole n ≡ true
kept_whole n h = grind (arith, h)

module _ {X : Type 0} (shows : X → Trait → Spec → Shown) (e : Environment X)
    (value_at : ℕ → Option (Slots X)) where
  -- and means what the step means
  pub kept_means : (n : Node) → IsSome (kept_step n)
      → node_means shows e n ≡ fitting_means shows e value_at (kept_step n)
  kept_means n h = rw (kept_is n (kept_whole n h)) (sym (whole_means shows e value_at n))
