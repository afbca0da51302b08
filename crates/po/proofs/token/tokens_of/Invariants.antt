use Rattle.std.proofs.Common.{◌≡◌, length, map}
use Rattle.po.specs.{Steps.Leads, Tokens.ReadsSpot, Tokens.as_spot}
use Rattle.po.proofs.token.tokens_of.Given as goal

abbrev pub invariant-tokens : goal.invariant-tokens
invariant-tokens l = record {
  end : l.at.end ≡ length l.text;
  read : Leads (ReadsSpot (length l.text)) l.text (map as_spot l.tokens.items) l.at.text.now;
}

abbrev pub decreases-tokens : goal.decreases-tokens
decreases-tokens l = length l.at.text.now
