use Rattle.std.proofs.Common.{◌≡◌, ◌+◌, ◌<◌, ◌^◌, drop}
use Rattle.interpolator.specs.Meaning.Parts.{bytes_of}
use Rattle.interpolator_vectors.proofs.sizes.parts_fit.Given as goal

-- the parts that are left have the bytes that were not counted yet
abbrev pub invariant-loop-part : goal.invariant-loop-part
invariant-loop-part l = record {
  left : l.bytes + bytes_of (drop l.part-index l.parts) ≡ bytes_of l.parts;
  fits : l.bytes < 2 ^ 64;
}
