use Rattle.std.proofs.Common.{drop, Option}
use Rattle.interpolator_syntax.specs.{Faults.Answer, Nodes.as_forest}
use Rattle.interpolator_eval.specs.Meaning.Samples.{sample_of}
use Rattle.interpolator_pieces.specs.{NodeSamples.forest_faults_in, Stored.nodes_of}
use Rattle.interpolator_pieces.specs.Collecting.{Collects}
use Rattle.interpolator_pieces.specs.declared.fault_collector.FaultCollector.{FaultCollector}
use Rattle.interpolator_pieces.proofs.sample.+sample.Given as goal

-- what was reported, and then what is reported for the pieces that are left, is what is reported
-- for all
abbrev pub invariant-collect_pieces-loop-piece : goal.invariant-collect_pieces-loop-piece
invariant-collect_pieces-loop-piece g l =
    let faults = forest_faults_in g.C.Object.Value.shows (sample_of g.C.Context.finds l.sample) in
    (new : FaultCollector) (r : Option Answer)
    → Collects (faults (as_forest (nodes_of l.text (drop l.piece-index l.pieces)))) l.collector new r
    → Collects (faults (as_forest (nodes_of l.text l.pieces))) l.fn.collector new r
