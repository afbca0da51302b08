use Rattle.std.proofs.Common.{refl, codes}
use Rattle.interpolator_syntax.specs.SpecTexts.{spec_from_sign, spec_after}
use Rattle.interpolator_syntax.specs.{Arguments.argument_at, Groups.group_at, Lists.list_at}
use Rattle.interpolator_syntax.specs.{Pieces.argument_from, Ranges.range_at, Tokens.first_token}
use Rattle.interpolator_syntax.specs.Nodes.{nodes}
use Rattle.interpolator_escapes.specs.Html.{in_base, in_value, double, plain, html_start}
use Rattle.interpolator_escapes.specs.{Csv.quoted, Csv.quote_seen, Json.between, Json.in_string}
use Rattle.interpolator_escapes.proofs.laws.worked_places.Goals as goal

pub returns : goal.returns
unfolding nodes first_token argument_from argument_at spec_after spec_from_sign list_at range_at
    group_at
returns c = record {
  html = (
    in_base (in_value double (codes "p") plain),
    refl,
    (
      in_base (in_value double (codes "p") plain),
      (refl, refl),
      (
        html_start,
        refl,
        (
          html_start,
          (
            (html_start, refl, (html_start, (refl, refl), (html_start, refl, refl))),
            (html_start, refl, refl),
            tt,
            refl,
          ),
          refl,
        ),
      ),
    ),
  );
  link = (
    in_base (in_value double (codes "a") plain),
    refl,
    (in_base (in_value double (codes "a") plain), (refl, refl), (html_start, refl, refl)),
  );
  after_title = (html_start, refl, (html_start, (refl, refl), refl));
  csv = (
    quoted,
    refl,
    (
      quoted,
      (refl, refl),
      (
        quoted,
        refl,
        (quoted, (refl, refl), (quote_seen, refl, refl)),
      ),
    ),
  );
  row = (
    quoted,
    refl,
    (
      quoted,
      ((quoted, (refl, refl), refl), (quoted, refl, refl), tt, refl),
      (quote_seen, refl, refl),
    ),
  );
  json = (
    between,
    refl,
    (
      in_string,
      refl,
      (in_string, (refl, refl), (between, refl, (between, (refl, refl), (between, refl, refl)))),
    ),
  );
  array = (
    between,
    refl,
    (
      between,
      ((between, (refl, refl), refl), (between, refl, refl), tt, refl),
      (between, refl, refl),
    ),
  );
  lines = (
    tt,
    (refl, refl),
    (
      tt,
      refl,
      (
        tt,
        (refl, refl),
        (
          tt,
          refl,
          (tt, ((tt, (refl, refl), refl), (tt, refl, refl), (refl, refl), refl), refl),
        ),
      ),
    ),
  );
}
