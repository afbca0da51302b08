-- What is written whole, as the text of a view.
use Rattle.std.proofs.Common.{◌≡◌, ℕ, List, Some, refl}
use Rattle.interpolator_render.specs.Texts.{has_text, view_text}
use Rattle.interpolator_render.specs.Views.{Shown, plain_text}
use Rattle.interpolator_render.specs.{declared.view.Spec.Spec, declared.view.Trait.Trait}
use Rattle.interpolator_escapes.specs.Wholes.{whole_text, whole_view}

pub plain_shown : (text : List ℕ) (t : Trait) (spec : Spec)
    → view_text (plain_text text) t spec ≡ has_text text
unfolding view_text
plain_shown text t spec = refl

pub whole_shown : (shown : Shown) (t : Trait) (spec : Spec) (text : List ℕ)
    → whole_text shown ≡ Some text
    → view_text (whole_view (whole_text shown) shown spec) t spec ≡ has_text text
whole_shown shown t spec text e = rw e (plain_shown text t spec)
