use Rattle.std.proofs.Common.{arith, rules, ◌≡◌, chars, encode_utf8_all, string_bytes}
use Rattle.std.proofs.lemmas.Str.{encodes-chars}
use Rattle.interpolator_eval.proofs.LoanLemmas.{absent_name, added}
use Rattle.interpolator_eval.proofs.context_map.NameMap.add.Goals as goal

pub add_new-requires : goal.add_new-requires
add_new-requires g c =
    let map = c.args.self.now in
    let name = chars c.args.name.now in
    let bytes : string_bytes c.in_ok-key.key ≡ encode_utf8_all name =
    rw (encodes-chars c.args.name.now c.utf8.name) (search rules) in
    let absent = absent_name map name c.find.result c.find.ensures (search rules) in
    record { absent = rw bytes absent }

pub returns-clause-ok : goal.returns-clause-ok
returns-clause-ok g c =
    let map = c.args.self.now in
    let name = chars c.args.name.now in
    let bytes : string_bytes c.in_ok-key.key ≡ encode_utf8_all name =
    rw (encodes-chars c.args.name.now c.utf8.name) (search rules) in
    let absent = absent_name map name c.find.result c.find.ensures (search rules) in
    grind (arith, c.add_new.ensures.ok, added g.T.Default.is_default map c.add_new.new.self name (string_bytes c.in_ok-key.key) bytes absent)
