use Rattle.std.proofs.Common.{false, refl}
use Rattle.interpolator_render.proofs.RenderingLemmas.{renders_puts}
use Rattle.interpolator_render.proofs.number.put_natural.Goals as goal

pub returns-then-is_bare : goal.returns-then-is_bare
returns-then-is_bare g c =
    rw (c.is_bare.ensures.number c.if-is_bare.true false c.args.n)
    (renders_puts _ _ _ _ _ _ refl c.as_rendered.ensures c.put_bare.ensures)
