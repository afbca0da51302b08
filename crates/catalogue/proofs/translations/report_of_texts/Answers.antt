use Rattle.std.proofs.Common.{◌≡◌, ◌∙◌, ap, map, string_bytes}
use Rattle.std.specs.Str.{chars}
use Rattle.interpolator.specs.{Places.outermost, Template.AllArguments.arguments_of}
use Rattle.interpolator_syntax.specs.Arguments.{argument_of}
use Rattle.catalogue.specs.Translations.{arguments_in}
use Rattle.catalogue.proofs.translations.report_of_texts.Goals as goal

pub returns-clause-reported : goal.returns-clause-reported
returns-clause-reported c = λ of_id of_plural.
    let one : map argument_of c.in_ok-one.one.items ≡ arguments_in c.args.entry.now.id.now =
    c.in_ok-one.ensures.arguments ∙ ap (λ text. arguments_of (outermost (chars text))) of_id in
    let other : map argument_of c.in_ok-other.other.items
    ≡ arguments_in c.args.entry.now.plural.now = c.in_ok-other.ensures.arguments
    ∙ ap (λ text. arguments_of (outermost (chars text))) of_plural in (
      string_bytes c.in_ok-reported.reported,
      string_bytes c.in_ok-more.more,
      rw (
        c.as_slice-texts.ensures.value,
        c.as_slice.ensures.value,
        c.as_slice-2.ensures.value,
        one,
        other,
      ) at c.in_ok-reported.ensures.reported,
      c.in_ok-more.ensures.reported (ap (map argument_of) c.as_slice-3.ensures.value ∙ one),
      rw c.as_str.ensures.value at c.in_ok-push_str.ensures.bytes,
    )
