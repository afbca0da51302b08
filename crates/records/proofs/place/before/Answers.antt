use Rattle.records.proofs.PlaceLemmas.{rest_boundary}
use Rattle.records.proofs.place.before.Goals as goal

pub split_at-requires : goal.split_at-requires
split_at-requires c = rest_boundary c.args.text.now c.args.rest.now c.requires c.utf8.rest
