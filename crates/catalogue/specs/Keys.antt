-- The keys of the lines of a file. Texts are bytes.
use Rattle.std.specs.Prelude.{◌≡◌, ◌≢◌, ℕ, ◌==◌, List, [], ◌∷◌, ◌++◌, codes, length, if◌then◌else◌}
use Rattle.std.specs.Prelude.{Option, None, Some, is_some}
use Rattle.std.specs.HashMap.{HashMap, get_by, hash_map_len}
use Rattle.std.specs.{Borrow.Bor, Fmt.decimal, List.find, Option.option_map, Str.bytes_eq}
use Rattle.catalogue.specs.{Declarations.begin_of, Files.Line, Reports.reported_at}

-- the number of the line that has a key, if one has
abbrev pub number_of : List (ℕ × List ℕ) → List ℕ → Option ℕ
number_of keys key = option_map (λ one. one.0) (find (λ one. bytes_eq one.1 key) keys)

-- the keys of some lines with their numbers, and that of one more line, if it has one that none of
-- them has: so each key is there once, with the number of its first line
abbrev pub with_key : List (ℕ × List ℕ) → ℕ → Option (List ℕ) → List (ℕ × List ℕ)
with_key keys number None = keys
with_key keys number (Some key) =
    if is_some (number_of keys key) then keys else (number, key) ∷ keys

-- a map has the number of each of these keys, and no other key
pub record Remembers {S : Type 0} (keys : List (ℕ × List ℕ)) (map : HashMap (Bor (List ℕ)) ℕ S)
    : Type 0 where
  pub finds : (key : List ℕ) → get_by (λ one. bytes_eq key one.now) map ≡ number_of keys key
  pub count : hash_map_len map ≡ length keys

-- a key is not empty, and not among those of the lines before
pub record IsNew (keys : List (ℕ × List ℕ)) (key : List ℕ) : Type 0 where
  pub some : length key ≢ 0
  pub first : number_of keys key ≡ None

-- what is reported of a key that another line has
abbrev pub what_is_again : ℕ → List ℕ → List ℕ
what_is_again number key =
    codes "line " ++ (decimal number ++ (codes " has the key `" ++ (key ++ codes "` too")))

-- what is reported of a key by the line before that has it
abbrev pub reported_again : Line → (head key : List ℕ) → Option ℕ → List ℕ
reported_again line head key None = []
reported_again line head key (Some before) =
    reported_at line (begin_of 0 head) (what_is_again before key)

-- what is reported of the key in the head of a line, by those of the lines before
abbrev pub report_of_key : Line → (head key : List ℕ) → List (ℕ × List ℕ) → List ℕ
report_of_key line head key keys =
    if length key == 0 then reported_at line (begin_of 0 head) (codes "no key")
    else reported_again line head key (number_of keys key)
