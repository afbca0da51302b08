use Rattle.std.proofs.Common.{◌≡◌, ◌+◌, drop, Option}
use Rattle.interpolator_syntax.specs.Faults.{Answer}
use Rattle.interpolator.specs.Meaning.Parts.{texts_of, bytes_of, parts_mean}
use Rattle.interpolator_eval.specs.Meaning.Sinks.{SameEnd, taken_by}
use Rattle.interpolator_eval.specs.Meaning.{CodeEnvironments.environment_of, Outcomes.Outcome}
use Rattle.interpolator_render.specs.Writers.{Written}
use Rattle.interpolator.proofs.parts.write_each.Given as goal

-- what was written, and then what the parts that are left mean, is what all parts mean
abbrev pub invariant-loop-part : goal.invariant-loop-part
invariant-loop-part g l =
    let meaning = parts_mean g.C.Object.Value.shows (environment_of g.C.Context.finds l.environment) in
    record {
      so_far : (new : Written) (answer : Option Answer)
          → Outcome (meaning l.place (texts_of (drop l.part-index l.parts)))
          (taken_by g.W.TextWrite.written l.sink) new answer
          → Outcome (meaning 0 (texts_of l.parts)) (taken_by g.W.TextWrite.written l.fn.sink) new
          answer;
      same : SameEnd l.fn.sink l.sink;
      fits : l.place + bytes_of (drop l.part-index l.parts) ≡ bytes_of l.parts;
    }
