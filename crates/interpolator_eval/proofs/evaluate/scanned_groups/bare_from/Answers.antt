use Rattle.std.proofs.Common.{refl, sym}
use Rattle.interpolator_syntax.specs.Places.{at}
use Rattle.interpolator_eval.proofs.MeaningLemmas.ScanLemmas.{text_next}
use Rattle.interpolator_eval.proofs.evaluate.scanned_groups.bare_from.Goals as goal

pub returns-in_ok-text_or_end-in-Argument-clause-bare :
    goal.returns-in_ok-text_or_end-in-Argument-clause-bare
returns-in_ok-text_or_end-in-Argument-clause-bare c =
    let token = rw c.in-Argument.is at (sym c.in_ok-token.ensures.token) in
    record {
      argument = _;
      back = _;
      bare = c.in_ok-place-in-Argument.ensures.bare _;
      is = text_next (at c.args.here) _ token;
      behind = rw c.in_ok-place-in-Argument.ensures.rest c.in_ok-text_or_end-in-Argument.ensures;
    }
