use Rattle.std.proofs.Common.{◌≡◌, ◌<◌, ◌∙◌, ap, arith, get_or, length, ltb}
use Rattle.std.proofs.Common.{ltb-false, ltb-true, nat_le, rules, sym}
use Rattle.std.proofs.lemmas.Grind.{common_steps}
use Rattle.std.proofs.lemmas.List.Sorted.{IsPartitionPoint-from_clause, IsPartitionedBy-ltb}
use Rattle.report.proofs.WidthLemmas.{IsSplit, ends_rise, found, none_found}
use Rattle.report.proofs.widths.is_within.Goals as goal

pub returns-in-Some : goal.returns-in-Some
returns-in-Some c =
    let ranges = c.args.ranges.now in
    let parted = IsPartitionedBy-ltb (λ r. r.1) ranges c.args.code
    (λ i j d h k. ends_rise ranges 0x300 i j d c.requires h k) in
    let point = IsPartitionPoint-from_clause (λ r. ltb r.1 c.args.code) _ _
    c.partition_point-before.ensures.partitioned parted (λ a r f k. search rules) in
    let split : IsSplit ranges c.args.code c.partition_point-before.result = record {
      before = λ k d l. ltb-true _ _ (point.0 k d (omega arith) l);
      after = λ k d l m. ltb-false _ _ (point.1 k d l m);
    } in
    let within : c.partition_point-before.result < length ranges =
    grind (arith, common_steps, c.in-Some.ensures.lookup) in
    let range = c.in-Some.field-0.now in
    let at : get_or ranges c.partition_point-before.result range ≡ range =
    grind (arith, common_steps, c.in-Some.ensures.lookup) in
    ap (λ r. nat_le r.0 c.args.code) (sym at)
    ∙ found ranges 0x300 c.args.code c.partition_point-before.result range c.requires within split

pub returns-in-None : goal.returns-in-None
returns-in-None c =
    let ranges = c.args.ranges.now in
    let parted = IsPartitionedBy-ltb (λ r. r.1) ranges c.args.code
    (λ i j d h k. ends_rise ranges 0x300 i j d c.requires h k) in
    let point = IsPartitionPoint-from_clause (λ r. ltb r.1 c.args.code) _ _
    c.partition_point-before.ensures.partitioned parted (λ a r f k. search rules) in
    let split : IsSplit ranges c.args.code c.partition_point-before.result = record {
      before = λ k d l. ltb-true _ _ (point.0 k d (omega arith) l);
      after = λ k d l m. ltb-false _ _ (point.1 k d l m);
    } in
    none_found ranges c.args.code c.partition_point-before.result c.in-None.ensures.lookup.3 split
