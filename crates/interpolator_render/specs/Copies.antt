-- Runs of copies of a character.
use Rattle.std.specs.Prelude.{◌≡◌, replicate, encode_utf8_all}
use Rattle.std.specs.Char.{len_utf8}
use Rattle.interpolator_render.specs.declared.copies.Run.{Run}

-- a run holds sixty-four copies of its character, and knows how many bytes the character has
pub record IsRun (run : Run) : Type 0 where
  pub unit : run.unit ≡ len_utf8 run.c
  pub copies : run.copies.now ≡ encode_utf8_all (replicate 64 run.c)
