use Rattle.std.proofs.Common.{rules}
use Rattle.interpolator_prepared.proofs.JoinedLemmas.{first_joined}
use Rattle.interpolator_prepared.proofs.joined.join.Goals as goal

pub returns : goal.returns
returns c =
    let all = first_joined c.args.text.now c.args.first.now c.args.rest.now
    c.no_parts-joined.result c.add_part.new.joined c.add_texts.new.joined c.requires.first
    c.no_parts-joined.ensures (rw (c.part_of-from.ensures.from, c.part_of-from.ensures.to) at c.in_ok-add_part.ensures.added) c.in_ok-add_texts.ensures.added in
    record { joined = search rules }
