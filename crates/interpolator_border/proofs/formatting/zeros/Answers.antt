use Rattle.std.proofs.Common.{◌≡◌, IsUtf8, arith, lit<, replicate, subst, sym}
use Rattle.std.proofs.lemmas.Str.{IsUtf8-from_ascii}
use Rattle.interpolator_render.proofs.LayoutLemmas.{IsAscii-replicate}
use Rattle.interpolator_border.proofs.formatting.zeros.Goals as goal

pub returns : goal.returns
returns c =
    let are : c.resize.new.self.items ≡ replicate c.args.count 0 = grind arith in
    subst IsUtf8 (sym are) (IsUtf8-from_ascii _ (IsAscii-replicate c.args.count 0 (lit< tt)))
