-- The environment that the code's environment stands for.
use Rattle.std.specs.{Prelude.ℕ, Prelude.List, Prelude.Option, Prelude.None, Option.option_map}
use Rattle.interpolator_eval.specs.declared.evaluate.environment.Environment as code_environment
use Rattle.interpolator_eval.specs.{Slots.Slots, Slots.slots_of, Meaning.Environments.Environment}

-- the environment of s, if `finds` is what a context finds under a name
abbrev pub environment_of : {C X : Type 0} → (C → List ℕ → Option (Slots X))
    → code_environment.Environment C X → Environment X
environment_of finds s =
    record {
      finds = finds s.context.now;
      inner = option_map (λ item. slots_of item.now) s.inner;
      names = None;
    }
