use Rattle.std.proofs.Common.{◌≡◌, ◌++◌, flat_map, length, map, Some, true}
use Rattle.interpolator_syntax.specs.Nodes.{as_forest}
use Rattle.interpolator_pieces.specs.Stored.{forest_whole, nodes_of}
use Rattle.interpolator_prepared.specs.{Programs.program, StoredSteps.steps_of}
use Rattle.interpolator_prepared.proofs.compile.compile_by.Given as goal

-- the steps so far, and those of the pieces that are left, are the program of all
abbrev pub invariant-loop-left : goal.invariant-loop-left
invariant-loop-left g l =
    record {
      whole : forest_whole (as_forest (nodes_of l.text l.left)) ≡ true;
      goes_on : flat_map (steps_of l.text) l.made.items
          ++ map Some (program (g.N.Names.known l.names) (nodes_of l.text l.left))
          ≡ map Some (program (g.N.Names.known l.names) (nodes_of l.text l.pieces));
    }

abbrev pub decreases-loop-left : goal.decreases-loop-left
decreases-loop-left g l = length l.left
