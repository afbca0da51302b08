-- What a writer over a writer of bytes has taken, what it has passed on to that one, and why it refuses.
use Rattle.std.specs.Prelude.{◌≡◌, ◌⊎◌, ℕ, ◌+◌, ◌<◌, ◌≤◌, max, Bool, false, true, ◌||◌, List, []}
use Rattle.std.specs.Prelude.{◌++◌, length, None, string_bytes, string_capacity, encode_utf8_all}
use Rattle.std.specs.Prelude.{Option}
use Rattle.std.specs.Str.{chars}
use Rattle.interpolator_render.specs.{PassedOn.Gets, PassedOn.GetsFront, Writers.Written}
use Rattle.interpolator_render.specs.{Writers.Origin, declared.io_writer.IoWriter.IoWriter}

-- the origin of a writer over a writer of bytes that contained this at first, if that is known
abbrev pub over : Option (List ℕ) → Origin
over start = record { bound = None; below = start; through = [] }

-- it refuses once a call of the writer below has failed, or there was no memory for a text
abbrev pub refuses : {W : Type 0} {g : _} → IoWriter W g → Bool
refuses w = w.below.failed || w.no_memory

-- it has taken what it passed on and what it holds
abbrev pub io_written : {W : Type 0} {g : _} → IoWriter W g → Written
io_written w = record {
  text = w.passed_on.text ++ chars (string_bytes w.held);
  refused = refuses w;
  origin = over w.passed_on.start;
}

-- the writer below contains what it did at first, and then the bytes of all the text taken
abbrev pub HasAll : {W : Type 0} {g : _} → (W → Option (List ℕ)) → IoWriter W g → Type 0
HasAll reported w =
    Gets (io_written w).origin.below (reported w.below.inner) (encode_utf8_all (io_written w).text)

-- or at least a front of them
abbrev pub HasFront : {W : Type 0} {g : _} → (W → Option (List ℕ)) → IoWriter W g → Type 0
HasFront reported w =
    GetsFront (io_written w).origin.below (reported w.below.inner) (encode_utf8_all (io_written w).text)

-- of what it held and of more bytes a front was passed on; it holds the rest, unless it refuses
pub record HandsOn {W : Type 0} {g : _} (reported : W → Option (List ℕ)) (old new : IoWriter W g)
    (more : List ℕ) : Type 0 where
  pub front : List ℕ
  pub rest : List ℕ
  pub parts : string_bytes old.held ++ more ≡ front ++ rest
  pub got : Gets (reported old.below.inner) (reported new.below.inner) front
  pub held : refuses new ≡ false → string_bytes new.held ≡ rest

-- a call of the writer below failed
abbrev pub FailsBelow : {W : Type 0} {g : _} → IoWriter W g → IoWriter W g → Type 0
FailsBelow old new = (old.below.failed ≡ false) × (new.below.failed ≡ true)

-- why bytes were refused: an earlier refusal, a failed call of the writer below, or no room for them
-- in memory beside what is still held
abbrev pub IoRefusesFor : {W : Type 0} {g : _} → IoWriter W g → List ℕ → IoWriter W g → Type 0
IoRefusesFor old bytes new =
    (refuses old ≡ true) ⊎ (FailsBelow old new
    ⊎ (string_capacity old.held < length (string_bytes new.held) + length bytes))

-- how many bytes are held after a text: at most 8 KiB, or one longer text whole, or as many as before
abbrev pub Gathers : {W : Type 0} {g : _} → IoWriter W g → ℕ → IoWriter W g → Type 0
Gathers old bytes new =
    length (string_bytes new.held) ≤ max (max 8192 bytes) (length (string_bytes old.held))
