-- The text of a value that has written itself.
use Rattle.std.proofs.Common.{◌≡◌, ◌∙◌, ℕ, List, [], ◌++◌, Option, None, Some, IfSome, ap}
use Rattle.std.proofs.Common.{string_bytes}
use Rattle.std.proofs.lemmas.Fmt.{contents_after_writes}
use Rattle.std.specs.{Fmt.WritesText, Str.chars}
use Rattle.interpolator_render.specs.Views.{some_text}
use Rattle.interpolator.specs.declared.owned_view.Draft.{Draft}

-- each call of a draft appends
abbrev pub Appends : Draft → List ℕ → Draft → Type 0
Appends before bytes after = string_bytes after.text ≡ string_bytes before.text ++ bytes

pub drafted : (output : Option (List ℕ)) (before after : Draft) → string_bytes before.text ≡ [] →
    WritesText Appends before output after →
    IfSome output (λ bytes. some_text (chars (string_bytes after.text)) ≡ some_text (chars bytes))
drafted None before after none wrote = tt
drafted (Some bytes) before after none wrote =
    ap (λ x. some_text (chars x))
    (contents_after_writes Appends (λ d. string_bytes d.text) (λ b x a t. t) before bytes after
    wrote
    ∙ ap (λ x. x ++ bytes) none)
