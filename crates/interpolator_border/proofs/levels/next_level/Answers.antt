use Rattle.std.proofs.Common.{◌≡◌, ◌-◌, ◌++◌, arith, drop, length, take, map}
use Rattle.std.proofs.lemmas.List.{length-map, map-append, drop-map}
use Rattle.interpolator_eval.specs.Slots.{slots_of}
use Rattle.interpolator_border.specs.Fields.{field_slots}
use Rattle.interpolator_border.proofs.LevelLemmas.{level_more, level_same}
use Rattle.interpolator_border.proofs.levels.next_level.Goals as goal

so_many : (c : goal.In_ok-put_known)
    → length (map slots_of c.put_nothing.new.level.items) ≡ c.min-first.result
so_many c = grind (arith, length-map)

made : (c : goal.In_ok-put_known)
    → map slots_of c.put_known.new.level.items
    ≡ (map slots_of c.put_nothing.new.level.items
    ++ map (field_slots (map slots_of c.args.known.now))
    (take (c.args.left - c.min-first.result) (drop c.min-first.result c.args.items.now)))
    ++ drop c.args.left (map slots_of c.args.known.now)
made c = grind (arith, map-append, drop-map)

pub returns-clause-same : goal.returns-clause-same
returns-clause-same c =
    level_same (field_slots (map slots_of c.args.known.now)) c.min-first.result
    c.args.left (map slots_of c.put_nothing.new.level.items) (map slots_of c.args.known.now) _
    c.args.items.now (grind arith) c.requires.within (so_many c) (made c)

pub returns-clause-more : goal.returns-clause-more
returns-clause-more c =
    level_more (field_slots (map slots_of c.args.known.now)) c.min-first.result
    c.args.left (map slots_of c.put_nothing.new.level.items) (map slots_of c.args.known.now) _
    c.args.items.now (grind arith) c.requires.within (so_many c) (made c) c.args.from (grind arith)
    c.requires.known
