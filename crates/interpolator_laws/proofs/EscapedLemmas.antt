-- What holds of an escaped format's meaning holds of its text.
use Rattle.std.proofs.Common.{◌≡◌, ◌⊎◌, inl, inr, ap, sym, ◌∙◌, refl, subst, chars, ℕ, List, Some}
use Rattle.std.proofs.Common.{None, option_map, Result, Ok, Err}
use Rattle.std.specs.{Prelude.IfOk, Prelude.string_bytes, declared.string.String.String}
use Rattle.interpolator_render.specs.{declared.view.Trait.Trait, declared.view.Spec.Spec}
use Rattle.interpolator_render.specs.Views.{Shown}
use Rattle.interpolator_syntax.specs.Faults.{fault, answer_of, no_memory, result_answer}
use Rattle.interpolator_syntax.specs.{Places.outermost, Places.text_of, declared.error.Error.Error}
use Rattle.interpolator_eval.specs.Meaning.Meanings.{Meaning, means}
use Rattle.interpolator_eval.specs.{Meaning.Environments.Environment, Meaning.Outcomes.Formats}
use Rattle.interpolator_escapes.specs.declared.escape.Escape.TheVariants.{Line, Html, Csv, Json}
use Rattle.interpolator_escapes.specs.declared.escape.Escape.TheVariants.{Shell}
use Rattle.interpolator_escapes.specs.{Formats.Stands, Formats.escaped_shows, Lines.control_step}
use Rattle.interpolator_escapes.specs.{Lines.everywhere, Placing.StandsFor, Records.row_format}
use Rattle.interpolator_escapes.specs.declared.escape.Escape.{Escape}

-- what a meaning's text has if it has no fault
abbrev pub Meant : (List ℕ → Type 0) → Meaning → Type 0
Meant P m = m.fault ≡ None → P (text_of m.text)

module _ {Z : Type 0} where
  pub made_text : (P : List ℕ → Type 0) (m : Meaning) (result : Result (String Z) Error)
      → Formats m result → Meant P m → IfOk result (λ text. P (chars (string_bytes text)))
  made_text P m (Ok text) formats meant = subst P (sym formats.1) (meant formats.0)
  made_text P m (Err error) formats meant = tt

  -- two answers of one fault, unless there was no memory
  abbrev pub SameAnswer : Result (String Z) Error → Result (String Z) Error → Type 0
  SameAnswer r s =
      (result_answer r ≡ Some no_memory) ⊎ (result_answer s ≡ Some no_memory)
      ⊎ (result_answer r ≡ result_answer s)

  pub same_answer : (m k : Meaning) (r s : Result (String Z) Error) → k.fault ≡ m.fault
      → Formats m r → Formats k s → SameAnswer r s
  same_answer m k (Ok text) (Ok other) e h j = inr (inr refl)
  same_answer m k (Ok text) (Err error) e h (inl out) = inr (inl (ap Some out))
  same_answer m k (Ok text) (Err error) e h (inr reported) =
      let none : k.fault ≡ None = e ∙ h.0 in
      let nothing : Some (answer_of error) ≡ None = reported ∙ ap (option_map fault) none in
      absurd (cc)
  same_answer m k (Err error) s e (inl out) j = inl (ap Some out)
  same_answer m k (Err error) (Ok text) e (inr reported) j =
      let none : m.fault ≡ None = sym e ∙ j.0 in
      let nothing : Some (answer_of error) ≡ None = reported ∙ ap (option_map fault) none in
      absurd (cc)
  same_answer m k (Err error) (Err other) e (inr reported) (inl out) = inr (inl (ap Some out))
  same_answer m k (Err error) (Err other) e (inr reported) (inr other_reported) =
      inr (inr (reported ∙ sym (other_reported ∙ ap (option_map fault) e)))

module _ {X : Type 0} (shows : X → Trait → Spec → Shown) (e : Environment X)
    (P : List ℕ → Type 0) where
  abbrev Escaped : Escape → List ℕ → Meaning
  Escaped escape cs = means (escaped_shows escape shows) e (outermost cs)

  -- of a line
  pub line_meant : (escape : Escape) (cs : List ℕ) → escape ≡ Line
      → StandsFor escape (outermost cs)
      → (Stands control_step everywhere tt (outermost cs) tt → Meant P (Escaped Line cs))
      → Meant P (Escaped escape cs)
  line_meant Line cs same stands law = law stands
  line_meant Html cs same stands law = absurd (cc)
  line_meant Csv cs same stands law = absurd (cc)
  line_meant Json cs same stands law = absurd (cc)
  line_meant Shell cs same stands law = absurd (cc)

  -- of a list as a record
  pub row_meant : (escape : Escape) (cs : List ℕ) → escape ≡ Csv → cs ≡ row_format
      → Meant P (Escaped Csv row_format) → Meant P (Escaped escape cs)
  row_meant Csv cs same text law = subst (λ ds. Meant P (Escaped Csv ds)) (sym text) law
  row_meant Line cs same text law = absurd (cc)
  row_meant Html cs same text law = absurd (cc)
  row_meant Json cs same text law = absurd (cc)
  row_meant Shell cs same text law = absurd (cc)
