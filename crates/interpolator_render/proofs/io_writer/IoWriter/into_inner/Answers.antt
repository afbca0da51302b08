use Rattle.std.proofs.lemmas.Str.{IsUtf8-string_bytes}
use Rattle.interpolator_render.proofs.IoWriterLemmas.{text_bytes}
use Rattle.interpolator_render.proofs.io_writer.IoWriter.into_inner.Goals as goal

pub returns-clause-front : goal.returns-clause-front
returns-clause-front g c = let w = c.args.self in
    rw (text_bytes w.passed_on.text _ (IsUtf8-string_bytes w.held)) w.front
