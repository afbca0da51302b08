use Rattle.std.proofs.Common.{◌≡◌, None, inl}
use Rattle.interpolator_render.specs.{declared.view.Spec.Spec, declared.view.Trait.Trait}
use Rattle.interpolator_render.specs.Views.{Shown}
use Rattle.interpolator_syntax.specs.Places.{At}
use Rattle.interpolator_eval.specs.{Meaning.Environments.Environment, Meaning.Meanings.means}
use Rattle.interpolator_escapes.specs.Csv.{field_start, csv_step, is_csv_place}
use Rattle.interpolator_escapes.specs.Escapes.{html_escape, csv_escape, json_escape, shell_escape}
use Rattle.interpolator_escapes.specs.Html.{html_start, html_step, is_html_place}
use Rattle.interpolator_escapes.specs.Json.{between, json_step, is_json_place}
use Rattle.interpolator_escapes.specs.Shell.{outside, shell_step, is_shell_place}
use Rattle.interpolator_escapes.specs.declared.escape.Escape.TheVariants.{Line, Html, Csv, Json}
use Rattle.interpolator_escapes.specs.declared.escape.Escape.TheVariants.{Shell}
use Rattle.interpolator_escapes.specs.{Formats.escaped_shows, Formats.shows_nothing}
use Rattle.interpolator_escapes.specs.{Lines.control_step, Lines.everywhere, Placing.StandsFor}
use Rattle.interpolator_escapes.specs.{Placing.structure_for, declared.escape.Escape.Escape}
use Rattle.interpolator_escapes.proofs.FormatLemmas.{escaped_structure, view_quiet}
use Rattle.interpolator_escapes.proofs.JsonLemmas.{json_inner, whole_stays}
use Rattle.interpolator_escapes.proofs.ControlLemmas.{controls_quiet}
use Rattle.interpolator_escapes.proofs.KeepLemmas.{html_keeps, csv_keeps, html_plain, csv_plain}
use Rattle.interpolator_escapes.proofs.KeepLemmas.{json_keeps, shell_keeps, json_plain, shell_plain}
use Rattle.interpolator_escapes.proofs.place_laws.accepted_formats_keep_structure.Goals as goal

-- by the escape
module _ {X : Type 0} (shows : X → Trait → Spec → Shown) (e : Environment X) (a : At) where
  kept : (escape : Escape) → StandsFor escape a
      → (means (escaped_shows escape shows) e a).fault ≡ None
      → structure_for escape (means (escaped_shows escape shows) e a)
      ≡ structure_for escape (means shows_nothing e a)
  kept Line h =
      escaped_structure control_step everywhere Line
      (λ text t spec cs s w h e. controls_quiet text t spec cs s e)
      (λ shown t spec cs s w h e. absurd (cc)) shows e a tt tt h
  kept Html h =
      escaped_structure html_step is_html_place Html
      (λ text t spec cs s w h e. view_quiet html_step is_html_place html_escape html_keeps
      html_plain text t spec cs s (λ ds d. inl h) e)
      (λ shown t spec cs s w h e. absurd (cc)) shows e a html_start h.0 h.1
  kept Csv h =
      escaped_structure csv_step is_csv_place Csv
      (λ text t spec cs s w h e. view_quiet csv_step is_csv_place csv_escape csv_keeps
      csv_plain text t spec cs s (λ ds d. inl h) e)
      (λ shown t spec cs s w h e. absurd (cc)) shows e a field_start h.0 h.1
  kept Json h =
      escaped_structure json_step is_json_place Json
      (λ text t spec cs s w h e. view_quiet json_step is_json_place json_escape json_keeps
      json_plain text t spec cs s (λ ds d. inl (json_inner s t spec w h)) e)
      whole_stays shows e a between h.0 h.1
  kept Shell h =
      escaped_structure shell_step is_shell_place Shell
      (λ text t spec cs s w h e. view_quiet shell_step is_shell_place shell_escape shell_keeps
      shell_plain text t spec cs s (λ ds d. inl h) e)
      (λ shown t spec cs s w h e. absurd (cc)) shows e a outside h.0 h.1

pub returns : goal.returns
returns g c = λ escape e a. kept g.V.Value.shows e a escape
