use Rattle.std.proofs.Common.{rules, ◌≡◌}
use Rattle.interpolator_syntax.specs.SpecTexts.{plain_spec}
use Rattle.interpolator_pieces.proofs.sample.collect_plain.Goals as goal

pub returns : goal.returns
returns g c =
    let plain : c.default-spec.result ≡ plain_spec = search rules in
    record { collects = rw plain at c.collect_values.ensures.collects }
