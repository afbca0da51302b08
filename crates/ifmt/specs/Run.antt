-- What the program writes, as bytes, and what its statuses say.
use Rattle.std.specs.Prelude.{◌≡◌, ℕ, List, [], ◌∷◌, ◌++◌, codes, encode_utf8_all, Option, None}
use Rattle.std.specs.Prelude.{Some, ◌⊎◌}
use Rattle.std.specs.Io.KnownBytes.{Appends, Keeps}
use Rattle.interpolator.specs.Faults.{Answer, Fault, fault, no_memory}
use Rattle.interpolator.specs.{Places.text_of, FaultTexts.answer_text, Meaning.Meanings.Meaning}

-- a text and a newline
abbrev pub line : List ℕ → List ℕ
line text = text ++ (10 ∷ [])

-- the complaint of a bad word
abbrev pub complaint : List ℕ → List ℕ
complaint word = line (codes "bad word: " ++ word)

-- how the program is called
abbrev pub usage : List ℕ
usage =
    codes "usage: ifmt FORMAT [NAME=TEXT | NAME:=NUMBER | NAME:.=DECIMAL | NAME[]=ITEM,ITEM..]"

-- the same as a line
abbrev pub usage_line : List ℕ
usage_line = line usage

-- a text was written and the status is the wanted one, or the write failed, and the status is 3
abbrev pub Puts : (wanted : ℕ) → (old new : Option (List ℕ)) → List ℕ → (status : ℕ) → Type 0
Puts wanted old new text status = ((status ≡ wanted) × Appends old new text) ⊎ (status ≡ 3)

-- the bytes that `out` and `err` are known to hold before and after a run, and its status
module _ (out_old out_new err_old err_new : Option (List ℕ)) (status : ℕ) where
  -- a text was written to `out`, as a line, with status 0, and nothing to `err`
  pub record Prints (text : List ℕ) : Type 0 where
    pub out : Puts 0 out_old out_new (line text) status
    pub err : Keeps err_old err_new

  -- why there is no text was written to `err`, as a line, with status 1, and nothing to `out`
  pub record Tells (why : Answer) : Type 0 where
    pub err : Puts 1 err_old err_new (line (answer_text why)) status
    pub out : Keeps out_old out_new

  -- a meaning without fault was printed, or its fault was reported, or that memory ran out
  pub data Runs (m : Meaning) : Type 0 where
    printed : m.fault ≡ None → Prints (encode_utf8_all (text_of m.text)) → Runs m
    reported : {why : Fault} → m.fault ≡ Some why → Tells (fault why) → Runs m
    wanted_memory : Tells no_memory → Runs m
