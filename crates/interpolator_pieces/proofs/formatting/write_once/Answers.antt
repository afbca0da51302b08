use Rattle.std.proofs.Common.{rules}
use Rattle.interpolator_eval.specs.Escaping.{shows_by}
use Rattle.interpolator_pieces.proofs.{CallLemmas.text_written, ListTextLemmas.or_else}
use Rattle.interpolator_pieces.proofs.formatting.write_once.Goals as goal

pub returns : goal.returns
returns g c =
    or_else
    (text_written (shows_by g.E.Escaper.shown g.C.Object.Value.shows) (g.C.Context.finds c.args.context.now) c.args.format.now
    _ _ _ c.utf8.format)
    (search rules)
