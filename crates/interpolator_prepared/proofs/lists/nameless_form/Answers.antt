use Rattle.std.specs.Str.{chars}
use Rattle.interpolator_prepared.proofs.{ItemLemmas.empty_name, SimpleListLemmas.nameless_item}
use Rattle.interpolator_prepared.proofs.lists.nameless_form.Goals as goal

pub returns : goal.returns
returns c =
    let name = c.name_of.result.1.now in
    rw c.spec_end_of.ensures (record {
      form = nameless_item c.args.text.now c.args.piece.now _ (chars name) _
          (empty_name name c.is_empty.result c.is_empty.ensures c.if-not-is_empty.false)
          c.requires.closed (c.requires.held (chars name) c.name_of.ensures.name);
    })
