use Rattle.std.proofs.Common.{◌≡◌, append-nil, arith, length, length-take-le, map, take, List, ℕ}
use Rattle.std.proofs.lemmas.List.{drop_all, length-map}
use Rattle.merge.specs.declared.columns.Column.{Column}
use Rattle.merge.proofs.NameLemmas.{knows_next, repeats_next}
use Rattle.merge.proofs.table.repeats_of.Goals as goal

pub loop-before-preserved : goal.loop-before-preserved
loop-before-preserved c =
    let name_of : Column → List ℕ = λ column. column.name.now in
    let names = map name_of (take c.loop-before.before c.args.columns.now) in
    let within = c.loop-before-test.true in
    let count : length names ≡ c.loop-before.before = omega (
      arith,
      length-map {B = List ℕ} (take c.loop-before.before c.args.columns.now) name_of,
      length-take-le c.loop-before.before c.args.columns.now (omega arith),
    ) in
    let pushed = c.in_ok-push_repeat.ensures in record {
      knows = knows_next name_of c.args.columns.now c.loop-before.before _
          c.push_repeat.new.seen within (pushed.seen names c.loop-before.invariant.knows);
      reported = rw (pushed.faults names c.loop-before.invariant.knows count)
          (repeats_next name_of c.args.columns.now c.loop-before.before _
          c.loop-before.faults.items _ within c.loop-before.invariant.reported);
    }

pub returns : goal.returns
returns c =
    let end = drop_all c.loop-before.before c.args.columns.now c.loop-before-test.false in
    rw (end, append-nil) at c.loop-before.invariant.reported
