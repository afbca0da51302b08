use Rattle.std.proofs.Common.{append_assoc, arith, encode_utf8, refl}
use Rattle.std.proofs.lemmas.Str.{chars-append, IsUtf8-string_bytes}
use Rattle.interpolator_render.proofs.IoWriterLemmas.{hands_after}
use Rattle.interpolator_render.proofs.WrittenLemmas.{chars-encode, refuses_all}
use Rattle.interpolator_render.proofs.io_writer.IoWriterTextWrite.write_char.Goals as goal

pub returns-in-Ok-clause-written : goal.returns-in-Ok-clause-written
returns-in-Ok-clause-written g c =
    grind (arith, chars-append, chars-encode, append_assoc, refuses_all, IsUtf8-string_bytes)

pub returns-in-Ok-clause-passed_on : goal.returns-in-Ok-clause-passed_on
returns-in-Ok-clause-passed_on g c =
    hands_after g.W.Write.contents c.args.self.now c.make_way.new.self _ (encode_utf8 c.args.c) c.append_char.result
    c.make_way.ensures.passed_on c.in-Ok.ensures.ok.1 refl (grind arith)

pub returns-in-Err-clause-written : goal.returns-in-Err-clause-written
returns-in-Err-clause-written g c = grind (arith, refuses_all)
