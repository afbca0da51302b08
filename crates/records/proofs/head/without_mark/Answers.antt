use Rattle.std.proofs.Common.{inl, inr, refl}
use Rattle.std.specs.Char.{encode_utf8}
use Rattle.records.proofs.head.without_mark.Goals as goal

pub returns-in-Some : goal.returns-in-Some
unfolding encode_utf8
returns-in-Some c = let cases = c.in-Some.ensures.cases in inl (rw (cases.2) (cases.1.split))

pub returns-in-None : goal.returns-in-None
unfolding encode_utf8
returns-in-None c = inr (c.in-None.ensures.cases, refl)
