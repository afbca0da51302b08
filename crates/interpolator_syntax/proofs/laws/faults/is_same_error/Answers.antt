use Rattle.std.proofs.Common.{arith, ◌≡◌, ◌↔◌, IsTrue, rules}
use Rattle.interpolator_syntax.proofs.ErrorLemmas.{byte_answer_of, same_answers, same_byte_answers}
use Rattle.interpolator_syntax.proofs.laws.faults.is_same_error.Goals as goal

pub returns : goal.returns
returns c =
    let first = byte_answer_of c.args.error.now in
    let in_bytes : IsTrue c.eq.result ↔ (first ≡ byte_answer_of c.args.other.now) = search rules in
    grind (arith, in_bytes, same_answers, same_byte_answers)
