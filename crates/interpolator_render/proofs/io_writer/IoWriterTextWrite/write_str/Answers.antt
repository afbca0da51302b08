use Rattle.std.proofs.Common.{append_assoc, arith, refl, rules}
use Rattle.std.proofs.lemmas.Str.{chars-append, IsUtf8-string_bytes}
use Rattle.interpolator_render.proofs.WrittenLemmas.{appends_nothing, chars_nonempty, refuses_all}
use Rattle.interpolator_render.proofs.IoWriterLemmas.{hands_after, hands_none}
use Rattle.interpolator_render.proofs.io_writer.IoWriterTextWrite.write_str.Goals as goal

pub returns-then-is_empty-clause-written : goal.returns-then-is_empty-clause-written
returns-then-is_empty-clause-written g c = appends_nothing _ _ (search rules)

pub returns-then-is_empty-clause-passed_on : goal.returns-then-is_empty-clause-passed_on
returns-then-is_empty-clause-passed_on g c =
    hands_none g.W.Write.contents c.args.self.now _ (search rules)

pub returns-in-Ok-clause-written : goal.returns-in-Ok-clause-written
returns-in-Ok-clause-written g c =
    grind (arith, chars-append, append_assoc, refuses_all, chars_nonempty, IsUtf8-string_bytes)

pub returns-in-Ok-clause-passed_on : goal.returns-in-Ok-clause-passed_on
returns-in-Ok-clause-passed_on g c =
    hands_after g.W.Write.contents c.args.self.now c.make_way.new.self _ c.args.text.now c.append.result
    c.make_way.ensures.passed_on c.in-Ok.ensures.ok.1 refl (grind arith)

pub returns-in-Err-clause-written : goal.returns-in-Err-clause-written
returns-in-Err-clause-written g c = grind (arith, refuses_all, chars_nonempty)
