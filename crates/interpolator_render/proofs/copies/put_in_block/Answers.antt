use Rattle.std.proofs.Common.{arith}
use Rattle.interpolator_render.proofs.CopyLemmas.{block_chars, block_utf8}
use Rattle.interpolator_render.proofs.copies.put_in_block.Goals as goal

pub from_utf8_unchecked-requires : goal.from_utf8_unchecked-requires
from_utf8_unchecked-requires g c = block_utf8 c.args.fill c.args.before c.args.after
    c.args.text.now _ c.requires.ascii c.utf8.text c.requires.fits (grind arith)

pub returns : goal.returns
returns g c = grind (arith, block_chars)
