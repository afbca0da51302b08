-- A text in a row of copies of one character, as a buffer holds it.
use Rattle.std.specs.Prelude.{◌≡◌, ℕ, ◌-◌, ◌<◌, ◌≤◌, List, ◌++◌, length, take, drop}
use Rattle.std.specs.Prelude.{replicate, slice_range}
use Rattle.std.specs.Str.{IsAscii}

-- a text in a row of copies of one character: how many are before it and after it
pub record Buffered : Type 0 where
  pub before : ℕ
  pub text : List ℕ
  pub after : ℕ
  pub fill : ℕ

-- with a piece written in front of the text
abbrev pub put_before : List ℕ → Buffered → Buffered
put_before piece row = record {
  before = row.before - length piece;
  text = piece ++ row.text;
  after = row.after;
  fill = row.fill;
}

-- with a piece written after the text
abbrev pub put_after : List ℕ → Buffered → Buffered
put_after piece row = record {
  before = row.before;
  text = row.text ++ piece;
  after = row.after - length piece;
  fill = row.fill;
}

-- the row that a buffer holds, whose text lies from `start` up to `end`
abbrev pub buffer_row : List ℕ → ℕ → ℕ → ℕ → Buffered
buffer_row bytes fill start end = record {
  before = start;
  text = slice_range bytes start end;
  after = 128 - end;
  fill = fill;
}

-- a buffer of 128 ASCII bytes holds such a row
pub record IsBuffered (bytes : List ℕ) (fill start end : ℕ) : Type 0 where
  pub ordered : start ≤ end
  pub within : end ≤ 128
  pub fill_ascii : fill < 128
  pub ascii : IsAscii bytes
  pub filled_before : take start bytes ≡ replicate start fill
  pub filled_after : drop end bytes ≡ replicate (128 - end) fill
