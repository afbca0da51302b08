-- A name's characters, encoded, are its bytes.
use Rattle.std.proofs.lemmas.Str.{encodes-chars, IsUtf8-string_bytes}
use Rattle.interpolator_syntax.proofs.error_text.ErrorDisplay.fmt.Goals as goal

pub returns-in-MissingValue : goal.returns-in-MissingValue
returns-in-MissingValue g c =
    let name = c.in-MissingValue.name in
    rw (c.in-MissingValue.is, encodes-chars _ (IsUtf8-string_bytes name)) record {
      writes = c.write_unstyled-in-MissingValue.ensures.writes;
      styled = c.write_unstyled-in-MissingValue.ensures.styled;
    }
