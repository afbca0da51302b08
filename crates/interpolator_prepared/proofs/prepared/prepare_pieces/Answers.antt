use Rattle.std.proofs.Common.{◌∙◌, ap, map, Some}
use Rattle.std.specs.Str.{chars}
use Rattle.interpolator_syntax.specs.Places.{outermost}
use Rattle.interpolator_prepared.specs.{Programs.program, Rows.name_bytes}
use Rattle.interpolator_pieces.specs.Stored.{nodes_of}
use Rattle.interpolator_pieces.proofs.RunLemmas.{text_whole}
use Rattle.interpolator_prepared.proofs.prepared.prepare_pieces.Goals as goal

pub compile-requires : goal.compile-requires
compile-requires c =
    record {
      whole = text_whole c.args.text.now c.args.pieces.now (outermost (chars c.args.text.now))
          c.requires.pieces;
    }

pub invariant_of-result : goal.invariant_of-result
invariant_of-result c =
    rw (c.in_ok-text.ensures.ok)
    (c.in_ok-steps.ensures.program
    ∙ ap (λ xs. map Some (program (name_bytes xs) (nodes_of c.args.text.now c.args.pieces.now)))
    c.deref.ensures.value
    ∙ ap (λ ns. map Some (program (name_bytes c.args.names.items) ns)) c.requires.pieces)
