use Rattle.std.proofs.Common.{length, ◌+◌, ◌*◌, option_map, chars}
use Rattle.interpolator_syntax.specs.{Arguments.list_of, Places.at, Groups.group_of}
use Rattle.interpolator_eval.proofs.MeaningLemmas.GroupSizeLemmas.{group_size, list_size}
use Rattle.interpolator_pieces.proofs.TextCheckLemmas.{Passed}
use Rattle.interpolator_pieces.proofs.text_check.+check.Given as goal

-- for a text, sixteen times the number of its characters; a group has fewer characters than follow
-- the brace of its argument
abbrev pub decreases-check_text : goal.decreases-check_text
decreases-check_text l = 16 * length (chars l.text.rest.now)

abbrev pub decreases-check_argument : goal.decreases-check_argument
decreases-check_argument l = 16 * length (chars l.here.rest.now) + 8

abbrev pub decreases-check_asked : goal.decreases-check_asked
decreases-check_asked l = 16 * length (chars l.here.rest.now) + 7

abbrev pub decreases-check_list : goal.decreases-check_list
decreases-check_list l = 16 * list_size (list_of l.asked.now.list) + 3

abbrev pub decreases-check_group : goal.decreases-check_group
decreases-check_group l = 16 * group_size (option_map group_of l.group) + 1

abbrev pub invariant-check_text-loop-token : goal.invariant-check_text-loop-token
invariant-check_text-loop-token l = Passed (at l.text) (at l.here)

abbrev pub decreases-check_text-loop-token : goal.decreases-check_text-loop-token
decreases-check_text-loop-token l = length (chars l.here.rest.now)
