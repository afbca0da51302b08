use Rattle.std.proofs.Common.{ap, ◌∙◌, arith}
use Rattle.std.proofs.lemmas.Simd.{first_set_mask_l, length-chunk}
use lib.Lanes.{chunk}
use Rattle.interpolator_escapes.specs.Search.{may_begin_escaped, first_mark}
use Rattle.interpolator_escapes.proofs.search.front_of_block.Goals as goal

pub returns : goal.returns
returns c =
    let v = chunk c.args.from 16 c.args.bytes.now in
    c.first_mark.ensures ∙ ap (λ m. first_mark m 16) c.marks_of.ensures
    ∙ first_set_mask_l (may_begin_escaped c.args.escape) v 16
    (length-chunk c.args.from 16 c.args.bytes.now c.requires) (omega arith)
