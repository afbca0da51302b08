use Rattle.std.proofs.Common.{refl, List, ℕ, Option, None, Some}
use Rattle.std.specs.Io.KnownBytes.{Keeps}
use Rattle.std.proofs.lemmas.List.{nil_from_length}
use Rattle.ifmt.specs.Command.{bad_word, no_format, ran, wanted_memory, wrong}
use Rattle.ifmt.proofs.command.answer.Goals as goal

-- a writer that is not touched keeps its bytes
keeps_same : (known : Option (List ℕ)) → Keeps known known
keeps_same None = tt
keeps_same (Some _) = refl

pub returns-in-None : goal.returns-in-None
returns-in-None g c = rw (nil_from_length c.args.line.now c.in-None.ensures.cases)
    (wrong no_format (keeps_same _) c.usage.ensures)

pub returns-in-Some-first_bad : goal.returns-in-Some-first_bad
returns-in-Some-first_bad g c = rw (c.in-Some.ensures.cases.0)
    (wrong (bad_word _ c.in-Some-first_bad.ensures) (keeps_same _) c.complain.ensures)

pub returns-in-Ok : goal.returns-in-Ok
returns-in-Ok g c = rw (c.in-Some.ensures.cases.0)
    (ran (rw c.as_str.ensures.value at c.in-Ok.ensures.ok))

pub returns-in-Err : goal.returns-in-Err
returns-in-Err g c =
    let failed = c.in-Err.ensures in
    rw (c.in-Some.ensures.cases.0, ← failed.out, ← failed.rest)
    (wanted_memory c.in-None-first_bad.ensures (rw failed.err at c.report.ensures))
