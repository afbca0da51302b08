use Rattle.std.proofs.Common.{◌≡◌, ◌++◌, drop, filter, map, not, string_bytes}
use Rattle.words.specs.Items.{texts_of}
use Rattle.catalogue.specs.{Lacks.each_once, Lacks.is_one_of, Unused.names_of}
use Rattle.catalogue.proofs.unused.names_of.Given as goal

abbrev pub invariant-loop-word : goal.invariant-loop-word
invariant-loop-word l =
    let found = texts_of l.names.items in
    found ++ filter (λ name. not (is_one_of found name))
    (each_once (names_of (map string_bytes (drop l.word-index l.words))))
    ≡ each_once (names_of (map string_bytes l.words))
