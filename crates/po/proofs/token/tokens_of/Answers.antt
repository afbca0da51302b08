use Rattle.std.proofs.Common.{◌∙◌, Global, length, map}
use Rattle.po.proofs.{StepLemmas.one_more, TokenLemmas.broken_after}
use Rattle.po.specs.Tokens.{ReadsSpot, as_spot}
use Rattle.po.proofs.token.tokens_of.Goals as goal

pub returns-in-Err : goal.returns-in-Err
returns-in-Err c =
    broken_after Global c.args.text.now (map as_spot c.tokens.tokens.items) c.tokens.at.text.now
    c.tokens.at.end c.in-Err.error c.tokens.invariant.end c.tokens.invariant.read
    c.in-Err.ensures.next

pub returns-in-Ok-None : goal.returns-in-Ok-None
returns-in-Ok-None c = (
  c.tokens.at.text.now,
  c.tokens.invariant.read,
  rw c.in-Ok-None.field-0-is at c.in-Ok-None.ensures.next,
)

pub tokens-preserved : goal.tokens-preserved
tokens-preserved c = record {
  end = (rw c.in-Ok-Some.field-0-is at c.in-Ok-Some.ensures.end) ∙ c.tokens.invariant.end;
  read = rw c.in_ok-push_token-in-Ok-Some.ensures
      (one_more (ReadsSpot (length c.args.text.now)) c.args.text.now
      (map as_spot c.tokens.tokens.items) c.tokens.at.text.now (as_spot c.in-Ok-Some.token)
      c.in-Ok-Some.after.text.now c.tokens.invariant.read
      (rw c.tokens.invariant.end at (rw c.in-Ok-Some.field-0-is at c.in-Ok-Some.ensures.next)));
}
