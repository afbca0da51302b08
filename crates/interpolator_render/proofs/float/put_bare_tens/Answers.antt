use Rattle.std.proofs.Common.{append_assoc, append-nil, arith, length-append}
use Rattle.std.proofs.lemmas.List.{length-replicate}
use Rattle.interpolator_render.proofs.FloatRowLemmas.{long_digits}
use Rattle.interpolator_render.proofs.float.put_bare_tens.Goals as goal

pub put_sign-requires : goal.put_sign-requires
put_sign-requires g c = grind (arith, long_digits, length-append, length-replicate)

pub returns : goal.returns
returns g c = grind (arith, append-nil, append_assoc)
