-- A context for worked rows of parts.
use Rattle.std.specs.Prelude.{ℕ, List, [], ◌∷◌, Some, codes}
use Rattle.interpolator_render.specs.Views.{Shown, some_text}
use Rattle.interpolator_render.specs.{declared.view.Trait.Trait, declared.view.Spec.Spec}
use Rattle.interpolator_eval.specs.Slots.{Slots, empty_slots, with_display, with_iter}
use Rattle.interpolator_eval.specs.Meaning.Environments.{Environment, environment}

-- a text shows itself
abbrev pub shows_itself : List ℕ → Trait → Spec → Shown
shows_itself text t spec = some_text text

-- a text that is displayed
abbrev pub echo_of : List ℕ → Slots (List ℕ)
echo_of text = with_display empty_slots text

-- each name has itself as its value, and the items `<` and `x`
abbrev pub echoes : Environment (List ℕ)
echoes =
    environment (λ name. Some (with_iter (echo_of name)
    (echo_of (codes "<") ∷ echo_of (codes "x") ∷ [])))
