-- Texts written part after part, up to a refusal.
use Rattle.std.proofs.Common.{take-append-drop, length-append, append_assoc, MatchResult, replicate}
use Rattle.std.proofs.Common.{append-nil, flat_map, IsAscii, length, get_or, Result, ℕ, IsUtf8}
use Rattle.std.proofs.Common.{arith, chars, zero, List, ◌++◌, refl, take, drop, ◌≡◌, suc, ◌<◌, ◌≤◌}
use Rattle.std.proofs.Common.{◌-◌, ◌+◌, ◌*◌, ◌^◌, min, ◌∷◌, sym, Err, [], ap, Ok}
use Rattle.std.proofs.lemmas.Str.{IsCharBoundary-at_seam, chars_from_encodes, encodes-IsAscii}
use Rattle.std.proofs.lemmas.Str.{len_utf8_bounds, encodes-append, chars-IsAscii, encodes-chars}
use Rattle.std.proofs.lemmas.Str.{IsUtf8-append, IsUtf8-encode, length-encode, IsUtf8-nil}
use Rattle.std.proofs.lemmas.{Grind.common_steps, Grind.flat_map-append, List.take_more}
use Rattle.std.specs.Char.{len_utf8}
use Rattle.interpolator_render.specs.declared.text_write.Refusal.{Refusal}
use Rattle.interpolator_render.specs.Writers.{Written, byte_count, Appends, AppendsBeginning}
use Rattle.interpolator_render.specs.Writers.{Refuses, RefusesLong, RefusesWhole, Puts, Writes}
use Rattle.interpolator_render.specs.Writers.{first_size}
use Rattle.interpolator_render.proofs.WrittenLemmas.{may_refuse}

-- nothing was written
pub appends_none : (a : Written) → Appends a [] a
appends_none a = grind (arith, append-nil)

-- two texts, one after the other
pub appends_both : (a b c : Written) (t u : List ℕ) → Appends a t b → Appends b u c →
    Appends a (t ++ u) c
appends_both a b c t u p q = grind (arith, append_assoc)

-- the second of two texts was refused
pub stops_in_second : (a b c : Written) (t u : List ℕ) → Appends a t b → AppendsBeginning b u c →
    AppendsBeginning a (t ++ u) c
stops_in_second a b c t u p q = grind (arith, append_assoc)

-- a text that is not empty has the same first character with another after it
pub first_size-append : (t u : List ℕ) → 0 < length t → first_size (t ++ u) ≡ first_size t
first_size-append [] u l = absurd (omega arith)
first_size-append (c ∷ cs) u l = refl

-- the first of two texts was refused
pub stops_in_first : (a b : Written) (t u : List ℕ) → AppendsBeginning a t b →
    AppendsBeginning a (t ++ u) b
stops_in_first a b t u p = grind (arith, append_assoc, length-append, first_size-append)

-- what a call returned, whatever its error says
pub writes_from_puts : (a b : Written) (t : List ℕ) (r : Result (Unit {0}) Refusal) → Puts a t r b →
    Writes a t r b
writes_from_puts a b t r p = grind arith

-- one text was written, and another after it or a part of it
pub writes_second : (a b c : Written) (t u : List ℕ) (r : Result (Unit {0}) Refusal) →
    Appends a t b → Writes b u r c → Writes a (t ++ u) r c
writes_second a b c t u r p q = grind (arith, common_steps, appends_both, stops_in_second)

pub byte_count-append : (t u : List ℕ) → byte_count (t ++ u) ≡ byte_count t + byte_count u
byte_count-append t u = grind (arith, encodes-append, length-append)

-- a refusal in the second text or in the first, with its counts: `done` counts the first text
pub refuses_in_second : (a b c : Written) (t u : List ℕ) (done taken all : ℕ) →
    done ≡ min (byte_count t) (2 ^ 64 - 1) → all ≡ min (done + taken) (2 ^ 64 - 1) →
    Appends a t b → RefusesLong b u taken c → RefusesLong a (t ++ u) all c
unfolding stops_in_second
refuses_in_second a b c t u done taken all d e p q = record {
  part = stops_in_second a b c t u p q.part;
  counted = let n = byte_count-append t q.part.beginning in let k = q.counted in omega arith;
}

pub refuses_in_first : (a b : Written) (t u : List ℕ) (taken : ℕ) → RefusesLong a t taken b →
    RefusesLong a (t ++ u) taken b
unfolding stops_in_first
refuses_in_first a b t u taken p = record
    { part = stops_in_first a b t u p.part; counted = p.counted }

-- a writer's own result, for a text that a `&str` holds
pub puts_from_write : (a b : Written) (t : List ℕ) (r : Result (Unit {0}) Refusal) →
    byte_count t < 2 ^ 64 →
    MatchResult r (λ _. Appends a t b) (λ x. Refuses a t x.taken b) → Puts a t r b
puts_from_write a b t (Ok x) f p = p
puts_from_write a b t (Err x) f p = record {
  part = p.part;
  counted = let d = ap byte_count p.part.parts in omega (arith, p.counted, byte_count-append);
}

pub IsAscii-replicate : (n c : ℕ) → c < 128 → IsAscii (replicate n c)
IsAscii-replicate zero c h = λ i. omega arith
IsAscii-replicate (suc n) c h = grind (arith, IsAscii-replicate n c h)

pub bytes_of_copies : (n c : ℕ) → byte_count (replicate n c) ≡ n * len_utf8 c
bytes_of_copies zero c = omega arith
bytes_of_copies (suc n) c = omega (arith, length-append {A = ℕ}, length-encode c, bytes_of_copies n c)

pub byte_count-chars : (bytes : List ℕ) → IsUtf8 bytes → byte_count (chars bytes) ≡ length bytes
byte_count-chars bytes u = grind (arith, encodes-chars)

-- the pieces up to one, and that one
pub parts_more : {X : Type 0} (f : X → List ℕ) (parts : List X) (i : ℕ) (d : X) → i < length parts →
    flat_map f (take i parts) ++ f (get_or parts i d) ≡ flat_map f (take (i + 1) parts)
parts_more f parts i d h = rw (take_more parts i d h) (simp (flat_map-append, append-nil))

pub parts_all : {X : Type 0} (f : X → List ℕ) (parts : List X) (i : ℕ) → flat_map f (take i parts)
    ++ flat_map f (drop i parts) ≡ flat_map f parts
parts_all f parts i = grind (arith, flat_map-append f (take i parts), take-append-drop)

pub parts_stop : {X : Type 0} (f : X → List ℕ) (a b c : Written) (parts : List X) (i : ℕ) (d : X)
    (done taken all : ℕ) → i < length parts →
    done ≡ min (byte_count (flat_map f (take i parts))) (2 ^ 64 - 1) →
    all ≡ min (done + taken) (2 ^ 64 - 1) →
    Appends a (flat_map f (take i parts)) b → RefusesLong b (f (get_or parts i d)) taken c →
    RefusesLong a (flat_map f parts) all c
parts_stop f a b c parts i d done taken all h e k p q =
    rw (← parts_all f parts (i + 1), ← parts_more f parts i d h)
    (refuses_in_first a c _ _ all (refuses_in_second a b c _ _ done taken all e k p q))

pub parts_count : {X : Type 0} (f : X → List ℕ) (parts : List X) (i : ℕ) (d : X)
    (done len more : ℕ) → i < length parts →
    done ≡ min (byte_count (flat_map f (take i parts))) (2 ^ 64 - 1) →
    len ≡ min (byte_count (f (get_or parts i d))) (2 ^ 64 - 1) →
    more ≡ min (done + len) (2 ^ 64 - 1) →
    more ≡ min (byte_count (flat_map f (take (i + 1) parts))) (2 ^ 64 - 1)
parts_count f parts i d done len more h e k l =
    grind (arith, common_steps, parts_more, byte_count-append)

pub parts_append : {X : Type 0} (f : X → List ℕ) (a b c : Written) (parts : List X) (i : ℕ)
    (d : X) → i < length parts →
    Appends a (flat_map f (take i parts)) b → Appends b (f (get_or parts i d)) c →
    Appends a (flat_map f (take (i + 1) parts)) c
parts_append f a b c parts i d h p q = grind (arith, common_steps, parts_more, appends_both)

-- a character's bytes are at most four
pub bytes_of_character : (c : ℕ) → byte_count (c ∷ []) ≤ 4
bytes_of_character c = grind (arith, length-append, length-encode, len_utf8_bounds)

-- for one call of a writer
pub ruleset one_write = (puts_from_write, byte_count-chars, bytes_of_character, chars-IsAscii)

-- a text that is not empty was refused whole
pub refused_whole : (a b : Written) (t : List ℕ) (r : Refusal) → 0 < length t
    → RefusesWhole a r.taken b → Puts a t (Err r) b
refused_whole a b t r l h = record {
  part = record {
    beginning = [];
    rest = t;
    parts = refl;
    not_whole = l;
    appended = rw h.1 (sym (append-nil a.text));
    flag_set = rw h.1 refl;
    none_after_refusal = λ _. refl;
    same_origin = rw h.1 refl;
    over = may_refuse a.origin.bound a.refused _ h.2;
  };
  counted = rw h.0 refl;
}

pub ruleset run_outcomes = (stops_in_first, writes_from_puts, writes_second)
