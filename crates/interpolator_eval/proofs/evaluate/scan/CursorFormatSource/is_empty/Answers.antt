use Rattle.std.proofs.Common.{arith}
use Rattle.interpolator_syntax.specs.Places.{at}
use Rattle.interpolator_eval.proofs.MeaningLemmas.ScanLemmas.{text_empty, text_holds}
use Rattle.interpolator_eval.proofs.evaluate.scan.CursorFormatSource.is_empty.Goals as goal

pub returns : goal.returns
returns c = grind (arith, text_empty (at c.args.self.now), text_holds (at c.args.self.now))
