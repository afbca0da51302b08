-- Digits that are put into a row, behind what lies there.
use Rattle.std.specs.Prelude.{◌≡◌, ℕ, pos, ◌+◌, ◌≤◌, nat_lt, Bool, false, List, ◌++◌, take}
use Rattle.std.specs.Str.{IsAscii}
use Rattle.interpolator_render.specs.{Texts.ViewText, Texts.has_text, Views.Shown}
use Rattle.interpolator_render.specs.Views.{signed_number, unsigned_number}

-- whether a view is a whole number from 0 to 9,999
abbrev pub is_few : Shown → Bool
is_few (signed_number (pos number) bits) = nat_lt number 10000
is_few (unsigned_number number) = nat_lt number 10000
is_few other = false

-- `count` places from `at` on have the text that is meant, of at most four ASCII characters; those
-- before them are as they were
pub record PutsFew (meant : ViewText) (at count : ℕ) (old new : List ℕ) : Type 0 where
  pub digits : List ℕ
  pub text : meant ≡ has_text digits
  pub ascii : IsAscii digits
  pub few : count ≤ 4
  pub row : take (at + count) new ≡ take at old ++ digits
