-- What values show, where their texts are escaped.
use Rattle.interpolator_render.specs.{Views.Shown, declared.view.Spec.Spec}
use Rattle.interpolator_render.specs.declared.view.Trait.{Trait}

-- what values show, if `shown` is shown in place of each view
abbrev pub shows_by : {X : Type 0} → (shown : Shown → Trait → Spec → Shown)
    → (shows : X → Trait → Spec → Shown) → X → Trait → Spec → Shown
shows_by shown shows x t spec = shown (shows x t spec) t spec
