-- What a format gave, reported, is what a run has to do.
use Rattle.std.proofs.Common.{◌≡◌, ℕ, List, Option, None, Some, option_map, Result, Ok, Err}
use Rattle.std.proofs.Common.{MatchResult, string_bytes, encode_utf8_all, inl, inr, refl, sym, ap}
use Rattle.std.proofs.Common.{◌∙◌}
use Rattle.std.proofs.lemmas.Str.{encodes-chars, IsUtf8-string_bytes}
use Rattle.std.specs.declared.string.String.{String}
use Rattle.interpolator.specs.Faults.{Answer, Fault, fault, answer_of}
use Rattle.interpolator.specs.{declared.Error.Error, Places.text_of, Meaning.Meanings.Meaning}
use Rattle.interpolator.specs.Meaning.Outcomes.{Formats}
use Rattle.ifmt.specs.Run.{Prints, Tells, Runs, printed, reported, wanted_memory}

module _ (out_old out_new err_old err_new : Option (List ℕ)) (status : ℕ) where
  -- a fault that was told is the meaning's
  fault_reported : (m : Meaning) (f : Option Fault) (why : Answer) → m.fault ≡ f →
      Some why ≡ option_map fault f → Tells out_old out_new err_old err_new status why →
      Runs out_old out_new err_old err_new status m
  fault_reported m (Some f) why has same tells =
      let is : why ≡ fault f = cc in reported has (rw (← is) tells)
  fault_reported m None why has same tells = cc

  -- what `format` gave was reported
  pub runs : {Z : Type 0} (m : Meaning) (outcome : Result (String Z) Error) → Formats m outcome →
      MatchResult outcome
      (λ text. Prints out_old out_new err_old err_new status (string_bytes text))
      (λ error. Tells out_old out_new err_old err_new status (answer_of error)) →
      Runs out_old out_new err_old err_new status m
  runs m (Ok text) formats prints =
      let bytes : encode_utf8_all (text_of m.text) ≡ string_bytes text =
      ap encode_utf8_all (sym formats.1) ∙ encodes-chars _ (IsUtf8-string_bytes text) in
      printed formats.0 (rw bytes prints)
  runs m (Err error) formats tells = elim formats [
    | inl memory ↦ wanted_memory (rw (← memory) tells)
    | inr same ↦ fault_reported m m.fault (answer_of error) refl same tells
  ]
