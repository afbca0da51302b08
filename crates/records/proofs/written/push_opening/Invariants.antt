use Rattle.std.proofs.Common.{ℕ, List, map, string_bytes, take}
use Rattle.records.specs.{Records.Opens, Written.Puts}
use Rattle.records.proofs.written.push_opening.Given as goal

abbrev pub invariant-loop-field : goal.invariant-loop-field
invariant-loop-field l = (opening : List ℕ)
    × Opens l.separator (map (λ x. x.now) (take l.field-index l.fields)) opening
    × Puts (string_bytes l.fn.out) (string_bytes l.out) opening
