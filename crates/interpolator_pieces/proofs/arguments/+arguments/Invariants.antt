use Rattle.std.proofs.Common.{map, length, ◌+◌, ◌*◌, option_map, chars}
use Rattle.interpolator_syntax.specs.Arguments.{argument_of, kind_of}
use Rattle.interpolator_syntax.specs.{Places.at, Groups.group_of}
use Rattle.interpolator_eval.proofs.MeaningLemmas.GroupSizeLemmas.{group_size, kind_size}
use Rattle.interpolator_pieces.proofs.AllArgumentLemmas.{Gathering}
use Rattle.interpolator_pieces.proofs.arguments.+arguments.Given as goal

-- for a text, four times the number of its characters; a group has fewer characters than follow the
-- brace of its argument
abbrev pub decreases-push_arguments : goal.decreases-push_arguments
decreases-push_arguments l = 4 * length (chars l.text.rest.now)

abbrev pub decreases-push_argument : goal.decreases-push_argument
decreases-push_argument l = 4 * length (chars l.here.rest.now) + 3

abbrev pub decreases-push_groups : goal.decreases-push_groups
decreases-push_groups l = 4 * kind_size (kind_of l.kind) + 2

abbrev pub decreases-push_group : goal.decreases-push_group
decreases-push_group l = 4 * group_size (option_map group_of l.group) + 1

abbrev pub invariant-push_arguments-loop-token : goal.invariant-push_arguments-loop-token
invariant-push_arguments-loop-token l =
    Gathering (at l.text) (map argument_of l.fn.arguments.items) (map argument_of l.arguments.items)
    (at l.here)

abbrev pub decreases-push_arguments-loop-token : goal.decreases-push_arguments-loop-token
decreases-push_arguments-loop-token l = length (chars l.here.rest.now)
