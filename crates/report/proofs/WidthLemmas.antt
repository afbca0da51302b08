-- Characters in ranges that stand in order, and how wide they are.
use Rattle.std.proofs.Common.{◌≡◌, ℕ, ◌+◌, ◌-◌, ◌*◌, ◌^◌, ◌<◌, ◌≤◌, zero, suc, nat_le, min, Bool}
use Rattle.std.proofs.Common.{false, true, ◌&&◌, ◌||◌, cond, leb-true, List, [], ◌∷◌, ◌++◌, length}
use Rattle.std.proofs.Common.{get_or, IsUtf8, refl, sym, ap, ◌∙◌, arith}
use Rattle.std.proofs.lemmas.{Bool.le-leb, Bool.lt-leb, List.Sums.sum_by_push}
use Rattle.std.proofs.lemmas.{List.Sums.sum_by-append, Str.encodes-chars, Str.length-le-encodes}
use Rattle.std.specs.{List.sum_by, Str.chars}
use Rattle.report.specs.Widths.{Ranges, is_within, rises, width_of}

both : (a b : Bool) → (a && b) ≡ true → (a ≡ true) × (b ≡ true)
both true b h = (refl, h)
both false b h = absurd (cc)

neither : (a b c : Bool) → (a && b) ≡ false → c ≡ false → ((a && b) || c) ≡ false
neither a b c h k = rw h k

either_left : (a b : Bool) → a ≡ false → (a && b) ≡ false
either_left a b h = rw h refl

-- the first of some ranges, and the others
parts : (ranges : Ranges) (range : ℕ × ℕ) (start : ℕ) → rises start (range ∷ ranges) ≡ true
    → (start ≤ range.0) × (range.0 ≤ range.1) × (rises (range.1 + 1) ranges ≡ true)
unfolding rises
parts ranges range start h =
    let first = both (nat_le start range.0) (nat_le range.0 range.1 && rises (range.1 + 1) ranges) h
    in let second = both (nat_le range.0 range.1) (rises (range.1 + 1) ranges) first.1 in
    (leb-true start range.0 first.0, leb-true range.0 range.1 second.0, second.1)

-- no character before the first range is in one
pub none_before : (ranges : Ranges) (start c : ℕ) → rises start ranges ≡ true → c < start
    → is_within ranges c ≡ false
unfolding is_within
none_before [] start c order h = refl
none_before (range ∷ ranges) start c order h =
    let order = parts ranges range start order in
    neither (nat_le range.0 c) (nat_le c range.1) (is_within ranges c)
    (either_left (nat_le range.0 c) (nat_le c range.1) (lt-leb range.0 c (omega arith)))
    (none_before ranges (range.1 + 1) c order.2 (omega arith))

-- the end of each range comes after what comes before all
end_above : (ranges : Ranges) (start j : ℕ) (d : ℕ × ℕ) → rises start ranges ≡ true
    → j < length ranges → start ≤ (get_or ranges j d).1
end_above [] start j d order h = absurd (omega arith)
end_above (range ∷ ranges) start zero d order h =
    let order = parts ranges range start order in omega arith
end_above (range ∷ ranges) start (suc j) d order h =
    let order = parts ranges range start order in
    let rest = end_above ranges (range.1 + 1) j d order.2 (omega arith) in omega arith

-- the ends stand in order
pub ends_rise : (ranges : Ranges) (start i j : ℕ) (d : ℕ × ℕ) → rises start ranges ≡ true
    → i ≤ j → j < length ranges → (get_or ranges i d).1 ≤ (get_or ranges j d).1
ends_rise [] start i j d order h k = absurd (omega arith)
ends_rise (range ∷ ranges) start zero zero d order h k = omega arith
ends_rise (range ∷ ranges) start zero (suc j) d order h k =
    let order = parts ranges range start order in
    let rest = end_above ranges (range.1 + 1) j d order.2 (omega arith) in omega arith
ends_rise (range ∷ ranges) start (suc i) zero d order h k = absurd (omega arith)
ends_rise (range ∷ ranges) start (suc i) (suc j) d order h k =
    let order = parts ranges range start order in
    ends_rise ranges (range.1 + 1) i j d order.2 (omega arith) (omega arith)

alone : (a b c : Bool) → b ≡ true → c ≡ false → ((a && b) || c) ≡ a
alone true b c h k = rw h refl
alone false b c h k = k

past : (a b c : Bool) → b ≡ false → ((a && b) || c) ≡ c
past true b c h = rw h refl
past false b c h = refl

-- some ranges end before a character, and the others do not
pub record IsSplit (ranges : Ranges) (c i : ℕ) : Type 0 where
  pub before : (k : ℕ) (d : ℕ × ℕ) → k < i → (get_or ranges k d).1 < c
  pub after : (k : ℕ) (d : ℕ × ℕ) → i ≤ k → k < length ranges → c ≤ (get_or ranges k d).1

rest_split : (range : ℕ × ℕ) (ranges : Ranges) (c i : ℕ) → IsSplit (range ∷ ranges) c (suc i)
    → IsSplit ranges c i
rest_split range ranges c i split = record {
  before = λ k d l. split.before (suc k) d (omega arith);
  after = λ k d l m. split.after (suc k) d (omega arith) (omega arith);
}

-- a character is in some range if it is in the first that does not end before it
pub found : (ranges : Ranges) (start c i : ℕ) (d : ℕ × ℕ) → rises start ranges ≡ true
    → i < length ranges → IsSplit ranges c i
    → nat_le (get_or ranges i d).0 c ≡ is_within ranges c
unfolding is_within
found [] start c i d order h split = absurd (omega arith)
found (range ∷ ranges) start c zero d order h split =
    let order = parts ranges range start order in
    let end = split.after 0 range (omega arith) (omega arith) in
    sym (alone (nat_le range.0 c) (nat_le c range.1) (is_within ranges c) (le-leb c range.1 end)
    (none_before ranges (range.1 + 1) c order.2 (omega arith)))
found (range ∷ ranges) start c (suc i) d order h split =
    let order = parts ranges range start order in
    let end = split.before 0 range (omega arith) in
    found ranges (range.1 + 1) c i d order.2 (omega arith) (rest_split range ranges c i split)
    ∙ sym (past (nat_le range.0 c) (nat_le c range.1) (is_within ranges c) (lt-leb c range.1 end))

-- it is in none if all end before it
pub none_found : (ranges : Ranges) (c i : ℕ) → length ranges ≤ i → IsSplit ranges c i
    → false ≡ is_within ranges c
unfolding is_within
none_found [] c i h split = refl
none_found (range ∷ ranges) c zero h split = absurd (omega arith)
none_found (range ∷ ranges) c (suc i) h split =
    let end = split.before 0 range (omega arith) in
    none_found ranges c i (omega arith) (rest_split range ranges c i split)
    ∙ sym (past (nat_le range.0 c) (nat_le c range.1) (is_within ranges c) (lt-leb c range.1 end))

-- ---- texts

-- no character takes more than two columns
narrow : (none two : Ranges) (c : ℕ) → width_of none two c ≤ 2
narrow none two c = elim (is_within none c) as (λ b. cond b 0 (cond (is_within two c) 2 1) ≤ 2) [
  | true ↦ omega arith
  | false ↦ elim (is_within two c) as (λ b. cond b 2 1 ≤ 2) [
    | true ↦ omega arith
    | false ↦ omega arith
  ]
]

sum_narrow : (none two : Ranges) (cs : List ℕ) → sum_by (width_of none two) cs ≤ length cs * 2
sum_narrow none two [] = omega arith
sum_narrow none two (c ∷ cs) =
    let more = sum_by-append (width_of none two) (c ∷ []) cs in
    omega (arith, more, narrow none two c, sum_narrow none two cs)

-- one character more
pub width_step : (none two : Ranges) (text cs : List ℕ) (c width : ℕ) → IsUtf8 text
    → length text < 2 ^ 63 → length cs < length (chars text) → width ≡ sum_by (width_of none two) cs
    → min (width + width_of none two c) (2 ^ 64 - 1) ≡ sum_by (width_of none two) (cs ++ (c ∷ []))
width_step none two text cs c width u short more so_far =
    omega (
      arith,
      so_far,
      sum_by_push (width_of none two) cs c,
      narrow none two c,
      sum_narrow none two cs,
      ap length (encodes-chars text u),
      length-le-encodes (chars text),
    )
