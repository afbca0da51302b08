use Rattle.std.specs.Prelude.{string_bytes}
use Rattle.interpolator_prepared.proofs.StepLemmas.{joined_then, literal_then}
use Rattle.interpolator_prepared.proofs.put.put_step.Goals as goal

pub returns-in_ok-put_literal-in-LiteralPlain : goal.returns-in_ok-put_literal-in-LiteralPlain
returns-in_ok-put_literal-in-LiteralPlain g c =
    let fits = rw c.in-LiteralPlain.is at c.requires.fits in
    record {
      outcome = λ e. rw c.in-LiteralPlain.is (literal_then _ e _ _ _ _ _ _ _ _ _ fits.0
          c.in_ok-put_literal-in-LiteralPlain.ensures.outcome c.put_plain-in-LiteralPlain.ensures.outcome);
    }

pub returns-in_ok-put_literal-in-LiteralValue : goal.returns-in_ok-put_literal-in-LiteralValue
returns-in_ok-put_literal-in-LiteralValue g c =
    let fits = rw c.in-LiteralValue.is at c.requires.fits in
    record {
      outcome = λ e. rw c.in-LiteralValue.is (literal_then _ e _ _ _ _ _ _ _ _ _ fits.0
          c.in_ok-put_literal-in-LiteralValue.ensures.outcome
          (rw c.deref-in-LiteralValue.ensures at c.put_at-in-LiteralValue.ensures.outcome));
    }

pub returns-in_ok-put_joined-in-JoinedPlain : goal.returns-in_ok-put_joined-in-JoinedPlain
returns-in_ok-put_joined-in-JoinedPlain g c =
    let joined = c.in-JoinedPlain.joined.value in
    let fits = rw c.in-JoinedPlain.is at c.requires.fits in
    let done = rw c.deref-in-JoinedPlain.ensures at c.in_ok-put_joined-in-JoinedPlain.ensures.outcome in
    record {
      outcome = λ e. rw c.in-JoinedPlain.is (joined_then _ e _ c.args.text.now
          joined.parts.items (string_bytes joined.text) _ _ _ _ _ done
          c.put_plain-in-JoinedPlain.ensures.outcome fits.0);
    }
