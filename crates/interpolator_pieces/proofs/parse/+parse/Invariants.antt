use Rattle.std.proofs.Common.{length, ◌+◌, ◌*◌, option_map, chars}
use Rattle.interpolator_syntax.specs.{Places.at, Groups.group_of}
use Rattle.interpolator_eval.proofs.MeaningLemmas.GroupSizeLemmas.{group_size}
use Rattle.interpolator_pieces.proofs.ParseLemmas.{Reading}
use Rattle.interpolator_pieces.proofs.parse.+parse.Given as goal

-- for a text, sixteen times the number of its characters; a group has fewer characters than follow
-- the brace of its argument
abbrev pub decreases-parse_pieces : goal.decreases-parse_pieces
decreases-parse_pieces l = 16 * length (chars l.text.rest.now)

abbrev pub decreases-push_argument_piece : goal.decreases-push_argument_piece
decreases-push_argument_piece l = 16 * length (chars l.here.rest.now) + 8

abbrev pub decreases-push_asked : goal.decreases-push_asked
decreases-push_asked l = 16 * length (chars l.opening.here.rest.now) + 7

abbrev pub decreases-push_taken : goal.decreases-push_taken
decreases-push_taken l = 16 * length (chars l.opening.here.rest.now) + 6

abbrev pub decreases-push_list : goal.decreases-push_list
decreases-push_list l = 16 * length (chars l.opening.here.rest.now) + 5

abbrev pub decreases-parse_group : goal.decreases-parse_group
decreases-parse_group l = 16 * group_size (option_map group_of l.group) + 1

abbrev pub invariant-parse_pieces-loop-token : goal.invariant-parse_pieces-loop-token
invariant-parse_pieces-loop-token l = Reading (at l.text) l.pieces.items (at l.here)

abbrev pub decreases-parse_pieces-loop-token : goal.decreases-parse_pieces-loop-token
decreases-parse_pieces-loop-token l = length (chars l.here.rest.now)
