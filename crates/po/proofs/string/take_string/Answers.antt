use Rattle.std.proofs.Common.{arith, string_bytes}
use Rattle.po.proofs.StringLemmas.{escape_read, plain_read}
use Rattle.po.proofs.string.take_string.Goals as goal

pub returns-in-Ok-None-default-clause-string : goal.returns-in-Ok-None-default-clause-string
returns-in-Ok-None-default-clause-string c =
    let so_far = plain_read c.args.from.text.now (string_bytes c.pieces.value)
    c.pieces.at.text.now c.split_plain.result.0.now c.split_plain.result.1.now
    (string_bytes c.push_str.new.self) c.pieces.invariant.read c.split_plain.ensures.plain
    c.split_plain.ensures.whole c.in_ok-push_str.ensures.bytes in
    rw (← (rw c.in-Ok-None-default.field-0-0-is at c.in-Ok-None-default.ensures.special)) so_far

pub pieces-preserved : goal.pieces-preserved
pieces-preserved c =
    let so_far = plain_read c.args.from.text.now (string_bytes c.pieces.value)
    c.pieces.at.text.now c.split_plain.result.0.now c.split_plain.result.1.now
    (string_bytes c.push_str.new.self) c.pieces.invariant.read c.split_plain.ensures.plain
    c.split_plain.ensures.whole c.in_ok-push_str.ensures.bytes in record {
      end = c.pieces.invariant.end;
      within = omega (
        arith,
        c.pieces.invariant.within,
        c.split_plain.ensures.shorter,
        c.in-Ok-Some-default.ensures.shorter,
      );
      read = escape_read c.args.from.text.now _ c.split_plain.result.1.now
          c.in-Ok-Some-default.rest.now (string_bytes c.push_byte.new.value) c.in-Ok-Some-default.byte
          so_far
          (rw c.in-Ok-Some-default.field-0-0-is at c.in-Ok-Some-default.ensures.special)
          (rw c.in-Ok-Some-default.field-0-0-is at c.in_ok-push_byte-in-Ok-Some-default.ensures);
    }

pub returns-in-Err-clause-string : goal.returns-in-Err-clause-string
returns-in-Err-clause-string c =
    let so_far = plain_read c.args.from.text.now (string_bytes c.pieces.value)
    c.pieces.at.text.now c.split_plain.result.0.now c.split_plain.result.1.now
    (string_bytes c.push_str.new.self) c.pieces.invariant.read c.split_plain.ensures.plain
    c.split_plain.ensures.whole c.in_ok-push_str.ensures.bytes in record {
      value = string_bytes c.push_str.new.self;
      tail = c.split_plain.result.1.now;
      read = so_far;
      stops = c.in-Err.ensures.special;
      placed = rw c.pieces.invariant.end at c.saturating_sub-place.ensures;
    }
