-- What bounds an escaped text.
use Rattle.std.specs.Prelude.{Bool, true, [], ◌∷◌, ◌++◌}
use Rattle.interpolator_render.specs.Views.{Shown, plain_text}
use Rattle.interpolator_render.specs.{declared.view.Spec.Spec, declared.view.Trait.Trait}
use Rattle.interpolator_escapes.specs.{Wholes.is_whole, declared.escape.Escape.Escape}

-- a text that is plain under each trait, between quotes
abbrev pub in_quotes : Bool → Shown → Shown
in_quotes true (plain_text text) = plain_text (34 ∷ (text ++ 34 ∷ []))
in_quotes _ shown = shown

-- values, such a text between quotes where it is written whole
abbrev pub with_quotes : {X : Type 0} → Escape → (shows : X → Trait → Spec → Shown) → X → Trait → Spec
    → Shown
with_quotes escape shows x t spec = in_quotes (is_whole escape t) (shows x t spec)
