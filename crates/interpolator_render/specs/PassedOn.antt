-- What a writer of bytes has got of a text that is passed on to it.
use Rattle.std.specs.Prelude.{◌≡◌, ℕ, ◌-◌, List, ◌++◌, length, take, Option, None, Some}
use Rattle.std.specs.Coded.{Coded-set, coded_list, coded_ℕ, Unit-prop}
use Rattle.std.specs.Io.KnownBytes.{Appends}

-- the known contents of a writer of bytes grow by these bytes; if they are not known, nothing is said
abbrev pub Gets : Option (List ℕ) → Option (List ℕ) → List ℕ → Type 0
Gets old new bytes = Appends old new bytes

-- the known contents of a writer of bytes, which were `start` at first, grow by a front of these
-- bytes: as many as they are longer
abbrev pub GetsFront : Option (List ℕ) → Option (List ℕ) → List ℕ → Type 0
GetsFront None now bytes = Unit {0}
GetsFront (Some start) None bytes = ⊥
GetsFront (Some start) (Some now) bytes =
    now ≡ start ++ take (length now - length start) bytes

-- each of these facts has one proof at most
pub Gets-prop : (old new : Option (List ℕ)) (bytes : List ℕ) → IsProp (Gets old new bytes)
Gets-prop None new bytes = Unit-prop
Gets-prop (Some xs) None bytes = λ p q. absurd p
Gets-prop (Some xs) (Some ys) bytes = Coded-set (coded_list coded_ℕ) ys (xs ++ bytes)

pub GetsFront-prop : (old new : Option (List ℕ)) (bytes : List ℕ)
    → IsProp (GetsFront old new bytes)
GetsFront-prop None now bytes = Unit-prop
GetsFront-prop (Some start) None bytes = λ p q. absurd p
GetsFront-prop (Some start) (Some now) bytes = Coded-set (coded_list coded_ℕ) now _

pub ruleset got = (Gets-prop, GetsFront-prop)
