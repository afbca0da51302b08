-- Lists in lists: once all items are known, each stands for what its field says.
use Rattle.std.specs.List.{list_any}
use Rattle.std.specs.Prelude.{if◌then◌else◌, ◌==◌, ◌&&◌, ◌||◌, nat_lt}
use Rattle.std.proofs.Common.{arith, ◌≡◌, ◌∙◌, sym, refl, ap, ℕ, zero, suc, ◌-◌, ◌≤◌, ◌+◌, Bool}
use Rattle.std.proofs.Common.{false, List, [], ◌∷◌, ◌++◌, map, take, drop, length, get_or, ◌<◌}
use Rattle.std.proofs.lemmas.Grind.{common_steps}
use Rattle.std.proofs.lemmas.List.{take_more, length-take-le, drop-drop, drop-map, drop_all}
use Rattle.std.proofs.lemmas.List.{append_assoc, drop_at, length-append, length-drop, length-map}
use Rattle.std.proofs.lemmas.List.{map-append, take-append-drop, take_all}
use Rattle.interpolator_eval.specs.Slots.{Slots, with_iter}
use Rattle.interpolator_border.specs.Fields.{begins_before, field_slots, lie_in_levels}
use Rattle.interpolator_border.specs.Fields.{masked_slots, settled, value_slots}
use Rattle.interpolator_border.specs.declared.field.Field.{Field}

-- ---- the item after the last list that begins before a place

pub settled_more : (from : ℕ) (before : List Field) (last : Field)
    → settled from (before ++ (last ∷ []))
    ≡ (if begins_before from last then suc (length before) else settled from before)
settled_more from [] last = refl
settled_more from (x ∷ xs) last = grind (arith, settled_more from xs last)

-- one item more
pub settled_step : (from : ℕ) (items : List Field) (i count after result : ℕ) (test : Bool) (d : Field)
    → i < length items → count ≡ i → after ≡ settled from (take i items)
    → test ≡ begins_before from (get_or items i d) → result ≡ (if test then count + 1 else after)
    → result ≡ settled from (take (i + 1) items)
settled_step from items i count after result test d less is so_far by is_result =
    grind (arith, common_steps, length-take-le, take_more, settled_more)

-- after it no list does
pub none_after : (from : ℕ) (items : List Field)
    → list_any (begins_before from) (drop (settled from items) items) ≡ false
none_after from [] = refl
none_after from (x ∷ xs) = grind (arith, none_after from xs)

-- it is one of the items, or what is after all of them
pub settled_within : (from : ℕ) (items : List Field) → settled from items ≤ length items
settled_within from [] = grind arith
settled_within from (x ∷ xs) = grind (arith, settled_within from xs)

-- ---- what is the same from a place on

cut_is : {A : Type 0} (n e : ℕ) (xs : List A) → drop n (take e xs) ≡ take (e - n) (drop n xs)
cut_is zero e xs = grind arith
cut_is (suc n) zero xs = grind arith
cut_is (suc n) (suc e) [] = grind (arith, take_all)
cut_is (suc n) (suc e) (x ∷ xs) = grind (arith, cut_is n e xs)

same_later : {A : Type 0} (from first : ℕ) (xs ys : List A) → from ≤ first
    → drop from xs ≡ drop from ys → drop first xs ≡ drop first ys
same_later from first xs ys late same =
    let at : first ≡ from + (first - from) = omega (arith, late) in
    ap (λ n. drop n xs) at ∙ sym (drop-drop (first - from) from xs)
    ∙ ap (drop (first - from)) same ∙ drop-drop (first - from) from ys
    ∙ sym (ap (λ n. drop n ys) at)

same_cut : {A : Type 0} (from first end : ℕ) (xs ys : List A) → from ≤ first
    → drop from xs ≡ drop from ys → drop first (take end xs) ≡ drop first (take end ys)
same_cut from first end xs ys late same = grind (arith, cut_is, same_later)

-- ---- a level more

or_false : (a b : Bool) → (a || b) ≡ false → (a ≡ false) × (b ≡ false)
or_false a b none = grind arith

module _ (from : ℕ) (xs ys : List (Slots Field)) (same : drop from xs ≡ drop from ys) where
  by_kind : (item : Field) (is_list : Bool) → (is_list && nat_lt item.first from) ≡ false
      → (if is_list then with_iter (masked_slots item.slots item) (drop item.first (take item.end xs))
      else value_slots item)
      ≡ (if is_list then with_iter (masked_slots item.slots item) (drop item.first (take item.end ys))
      else value_slots item)
  by_kind item is_list late = grind (arith, same_cut)

  same_all : (items : List Field) → list_any (begins_before from) items ≡ false
      → map (field_slots xs) items ≡ map (field_slots ys) items
  same_all [] none = refl
  same_all (x ∷ items) none =
      let h = or_false (begins_before from x) (list_any (begins_before from) items) none in
      ap (λ y. y ∷ map (field_slots xs) items) (by_kind x (x.kind == 11) h.0)
      ∙ ap (λ zs. field_slots ys x ∷ zs) (same_all items h.1)

-- what is known from an item on, is known of the level above from the item on that is settled
pub next_known : (left : ℕ) (below level : List (Slots Field)) (items : List Field)
    → drop left level ≡ drop left below
    → drop (settled left items) level ≡ drop (settled left items) (map (field_slots below) items)
    → drop (settled left items) level ≡ drop (settled left items) (map (field_slots level) items)
next_known left below level items same more =
    more ∙ drop-map (field_slots below) (settled left items) items
    ∙ sym (same_all left level below same (drop (settled left items) items) (none_after left items))
    ∙ sym (drop-map (field_slots level) (settled left items) items)

-- ---- the level above, as it is made: nothing up to an item, what fields say up to another, and what is
-- known from that one on

module _ {A B : Type 0} (fs : A → B) (first left : ℕ) (before below level : List B) (items : List A)
    (early : first ≤ left) (within : left ≤ length items) (so_many : length before ≡ first)
    (made : level ≡ (before ++ map fs (take (left - first) (drop first items))) ++ drop left below) where
  abbrev some : List A
  some = take (left - first) (drop first items)

  some_length : length some ≡ left - first
  some_length =
      length-take-le (left - first) (drop first items)
      (omega (arith, length-drop first items, early, within))

  -- what was known is as it was
  pub level_same : drop left level ≡ drop left below
  level_same =
      ap (drop left) made
      ∙ drop_at (before ++ map fs some) (drop left below) left
      (omega (arith, length-append before (map fs some), length-map some fs, some_length, so_many, early))

  rest_is : drop (left - first) (drop first items) ≡ drop left items
  rest_is =
      let at : left ≡ first + (left - first) = omega (arith, early) in
      drop-drop (left - first) first items ∙ sym (ap (λ n. drop n items) at)

  -- from the first item on, the fields say all
  pub level_more : (from : ℕ) → first ≤ from → drop left below ≡ drop left (map fs items)
      → drop from level ≡ drop from (map fs items)
  level_more from late known =
      same_later first from level (map fs items) late
      (ap (drop first) (made ∙ append_assoc before (map fs some) (drop left below))
      ∙ drop_at before (map fs some ++ drop left below) first so_many
      ∙ ap (λ l. map fs some ++ l) (known ∙ drop-map fs left items ∙ sym (ap (map fs) rest_is))
      ∙ sym (map-append fs some (drop (left - first) (drop first items)))
      ∙ ap (map fs) (take-append-drop (left - first) (drop first items))
      ∙ sym (drop-map fs first items))

-- from the last item on, all is known of nothing
pub nothing_known : (items : List Field)
    → drop (length items) [] ≡ drop (length items) (map (field_slots []) items)
nothing_known items = grind (arith, drop_all, length-map)

-- once nothing is left, all is known
pub known_all : (left : ℕ) (trees : List (Slots Field)) (items : List Field) → left ≡ 0
    → drop left trees ≡ drop left (map (field_slots trees) items)
    → trees ≡ map (field_slots trees) items
known_all left trees items is known = grind arith

-- whether lists lie as they should from an item on, by the level above
pub lie_deeper : (levels left : ℕ) (items : List Field) → ¬ (left ≡ 0) → ¬ (levels ≡ 0)
    → lie_in_levels (levels - 1) items (settled left items) ≡ lie_in_levels levels items left
lie_deeper levels left items some deep = grind arith
