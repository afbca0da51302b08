use Rattle.std.proofs.Common.{◌≡◌, ◌∙◌, sym, None, rules, ◌+◌}
use Rattle.std.specs.{HashMap.get_by, HashMap.hash_map_len, Str.bytes_eq}
use Rattle.catalogue.proofs.KeyLemmas.{remembers_new}
use Rattle.catalogue.proofs.keys.add_key.Goals as goal

pub returns-in_ok-insert : goal.returns-in_ok-insert
returns-in_ok-insert c seen so_far =
    let none : get_by (λ one. bytes_eq c.in-Some.key.now one.now) c.args.keys.now ≡ None =
    search rules in
    let one_more : hash_map_len c.insert.new.self ≡ hash_map_len c.args.keys.now + 1 =
    rw (c.in_ok-insert.ensures.old, none) at c.in_ok-insert.ensures.len in
    rw c.in-Some.is (remembers_new seen c.args.number c.in-Some.key.now c.args.keys.now
    c.insert.new.self so_far none c.in_ok-insert.ensures.updates.0 one_more)

pub returns-else-not-contains_key : goal.returns-else-not-contains_key
returns-else-not-contains_key c seen so_far =
    let there = rw (so_far.finds c.in-Some.key.now) at
    (sym c.contains_key.ensures ∙ c.if-not-contains_key.false) in
    rw (c.in-Some.is, there) so_far
