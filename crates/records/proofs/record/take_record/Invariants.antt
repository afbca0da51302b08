use Rattle.std.proofs.Common.{◌≡◌, ◌++◌, ℕ, List, length, map}
use denote.{Text.Utf8, Shadow.shadow}
use Rattle.records.specs.{Records.Opens, Spellings.text_of}
use Rattle.records.proofs.record.take_record.Given as goal

abbrev pub invariant-fields : goal.invariant-fields
invariant-fields l = shadow (Utf8 l.rest)
    × ((opening : List ℕ) × (l.text ≡ opening ++ l.rest)
    × Opens l.separator (map text_of l.fields.items) opening)

abbrev pub decreases-fields : goal.decreases-fields
decreases-fields l = length l.rest
