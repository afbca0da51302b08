use Rattle.std.proofs.Common.{◌≡◌, true, false}
use Rattle.interpolator_syntax.specs.SpecTexts.{spec_from_sign, spec_after}
use Rattle.interpolator_syntax.specs.{Arguments.argument_at, Groups.group_at, Lists.list_at}
use Rattle.interpolator_syntax.specs.{Pieces.argument_from, Ranges.range_at, Tokens.first_token}
use Rattle.interpolator_syntax.specs.Nodes.{nodes}
use Rattle.interpolator_escapes.proofs.laws.worked_refusals.Goals as goal

pub returns : goal.returns
unfolding nodes first_token argument_from argument_at spec_after spec_from_sign list_at range_at
    group_at
returns c = record {
  bare = λ t h. let p : false ≡ true = rw h.1 at h.2.1.0 in absurd (cc);
  whole_link = λ t h. let p : false ≡ true = rw h.1 at h.2.1.0 in absurd (cc);
  scheme = λ t h. let p : false ≡ true = rw h.1 at h.2.1.0 in absurd (cc);
  event = λ t h. let p : false ≡ true = rw h.1 at h.2.1.0 in absurd (cc);
  style = λ t h. let p : false ≡ true = rw h.1 at h.2.1.0 in absurd (cc);
  title = λ t h. let p : false ≡ true = rw h.1 at h.2.1.0 in absurd (cc);
  script = λ t h. let p : false ≡ true = rw h.1 at h.2.1.0 in absurd (cc);
  comment = λ t h. let p : false ≡ true = rw h.1 at h.2.1.0 in absurd (cc);
  name = λ t h. let p : false ≡ true = rw h.1 at h.2.1.0 in absurd (cc);
  reference = λ t h. let p : false ≡ true = rw h.1 at h.2.1.0 in absurd (cc);
  displayed = λ t h. let p : false ≡ true = rw h.1 at h.2.1.0 in absurd (cc);
  quoted = λ t h. let p : false ≡ true = rw h.1 at h.2.1.0 in absurd (cc);
  plus = λ t h. let p : false ≡ true = rw h.1 at h.2.1.0 in absurd (cc);
  zeros = λ t h. let p : false ≡ true = rw h.1 at h.2.1.0 in absurd (cc);
  fill = λ t h. let p : false ≡ true = rw h.1 at h.2.1.0 in absurd (cc);
  base_sixteen = λ t h. let p : false ≡ true = rw h.1 at h.2.1.0 in absurd (cc);
}
