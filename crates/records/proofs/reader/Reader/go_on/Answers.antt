use Rattle.std.proofs.Common.{ap, arith, length, length-append}
use Rattle.records.proofs.PlaceLemmas.{line_bound}
use Rattle.records.specs.declared.fault.Place.{Place}
use Rattle.records.proofs.reader.Reader.go_on.Goals as goal

pub invariant_of-self : goal.invariant_of-self
invariant_of-self c = record {
  fits = omega (
    arith,
    ap (λ (place : Place). place.line) c.place_after-place.ensures,
    line_bound (record { line = c.args.self.now.line; column = 1 }) c.as_bytes.result.now,
    ap length c.as_bytes.ensures.value,
    ap length c.before-2.ensures,
    length-append c.before-2.result.now c.args.rest.now,
    c.args.self.now.fits,
  );
}
