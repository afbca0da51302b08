use Rattle.std.proofs.Common.{◌≡◌, [], ◌++◌, drop, map}
use Rattle.std.specs.List.{slice_split}
use Rattle.words.specs.{Declarations.as_declaration, Items.texts_of}
use Rattle.catalogue.specs.Declarations.{broken_from, declarations, is_comma}
use Rattle.catalogue.proofs.declarations.declared_between.Given as goal

abbrev pub invariant-loop-part : goal.invariant-loop-part
invariant-loop-part l =
    let seen = map as_declaration l.found.items in
    let rest = texts_of (drop l.part-index l.part-items) in
    let all = slice_split is_comma l.inner in
    record {
      broken : broken_from l.at seen rest ≡ broken_from l.place [] all;
      found : seen ++ declarations rest ≡ declarations all;
    }
