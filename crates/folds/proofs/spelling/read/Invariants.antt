use Rattle.std.proofs.Common.{◌≡◌, ◌++◌, drop, length, string_bytes}
use Rattle.std.specs.Str.{chars}
use Rattle.folds.specs.Spellings.{bytes_of, spelled, spelling}
use Rattle.folds.proofs.spelling.read.Given as goal

abbrev pub invariant-loop-c : goal.invariant-loop-c
invariant-loop-c l =
    let rest = spelled l.at (drop (length l.yielded) (chars l.written)) in
    let all = spelling l.written in
    record {
      text : string_bytes l.text ++ bytes_of rest.meant ≡ bytes_of all.meant;
      wrong : rest.wrong ≡ all.wrong;
    }
