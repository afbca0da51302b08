-- What a field that C passes shows, and what it stands for.
use Rattle.std.specs.Prelude.{◌≡◌, ℕ, ◌+◌, ◌*◌, ◌^◌, ℤ, pos, ◌+ℤ◌, ◌*ℤ◌, Bool, ◌==◌, not, ◌&&◌}
use Rattle.std.specs.Prelude.{◌||◌, zero, suc, true, false, nat_lt, if◌then◌else◌, List, [], ◌∷◌}
use Rattle.std.specs.Prelude.{map, take, drop, reverse, length, Option, None, Some}
use Rattle.std.specs.{List.find, List.list_all, Option.option_map, Float.binary32, Float.binary64}
use Rattle.std.specs.{Int.Bits.bit_and, Str.chars, Str.is_utf8, Str.bytes_eq, Str.encode_utf8_all}
use Rattle.interpolator_render.specs.Views.{Shown, signed_number, unsigned_number, truth_value}
use Rattle.interpolator_render.specs.Views.{one_character, some_text, plain_text, fits_signed}
use Rattle.interpolator_render.specs.Views.{decimal_number, float_number, nothing_implemented}
use Rattle.interpolator_render.specs.Views.{failure}
use Rattle.interpolator_render.specs.declared.view.Bits.TheVariants.{B8, B16, B32, B64, B128}
use Rattle.interpolator_render.specs.declared.view.Trait.TheVariants.{Binary, Debug, Display}
use Rattle.interpolator_render.specs.declared.view.Trait.TheVariants.{LowerExp, LowerHex, Octal}
use Rattle.interpolator_render.specs.declared.view.Trait.TheVariants.{UpperExp, UpperHex}
use Rattle.interpolator_render.specs.declared.{view.Bits.Bits, view.Spec.Spec, view.Trait.Trait}
use Rattle.interpolator_eval.specs.Slots.{Slots, empty_slots, with_debug_display, with_integer}
use Rattle.interpolator_eval.specs.Slots.{with_float, with_iter, with_trait}
use Rattle.interpolator_border.specs.Requests.{is_request, request_of}
use Rattle.interpolator_border.specs.{declared.field.Field.Field, declared.field.Lent.Lent}

-- ---- what a field shows

-- a text shows its characters, and fails if it is not UTF-8
abbrev pub text_shows : (List ℕ → Shown) → List ℕ → Shown
text_shows shown bytes = if is_utf8 bytes then shown (chars bytes) else failure

-- a code that is a character's: no surrogate's, and at most the greatest
abbrev pub is_character : ℕ → Bool
is_character code = nat_lt code 0xD800 || (not (nat_lt code 0xE000) && nat_lt code 0x11_0000)

-- a character shows itself, and a code that is none fails
abbrev pub character_shows : ℕ → Shown
character_shows code = if is_character code then one_character code else failure

-- a signed number shows itself, and fails outside its range
abbrev pub signed_shows : ℤ → Bits → Shown
signed_shows number bits = if fits_signed number bits then signed_number number bits else failure

-- the text that is lent for a request shows itself; without one nothing is shown
abbrev pub found_shows : Option Lent → Shown
found_shows (Some lent) = text_shows plain_text lent.text.now
found_shows None = nothing_implemented

-- the first text that is lent for the request
abbrev pub lent_shows : List Lent → Trait → Spec → Shown
lent_shows lents t spec =
    found_shows (find (λ lent. is_request (request_of t spec) lent.request) lents)

-- a decimal shows itself, and fails if its scale is no number of 32 bits
abbrev pub decimal_shows : ℤ → ℕ → Shown
decimal_shows units scale = if nat_lt scale (2 ^ 32) then decimal_number units scale else failure

-- a signed number of 128 bits, by its halves
abbrev pub signed_halves : ℤ → ℕ → ℤ
signed_halves upper lower = upper *ℤ pos 0x1_0000_0000_0000_0000 +ℤ pos lower

-- a float and a decimal show themselves; what is of no kind shows nothing
abbrev pub real_shows : Field → Shown
real_shows field =
    if field.kind == 13 then float_number binary64 field.real
    else if field.kind == 14 then float_number binary32 field.single
    else if field.kind == 15
    then decimal_shows (signed_halves field.number field.natural) field.upper
    else nothing_implemented

-- a number shows itself
abbrev pub number_shows : Field → Shown
number_shows field =
    if field.kind == 4 then unsigned_number field.natural
    else if field.kind == 5
    then unsigned_number (field.upper * 0x1_0000_0000_0000_0000 + field.natural)
    else if field.kind == 6 then signed_shows field.number B8
    else if field.kind == 7 then signed_shows field.number B16
    else if field.kind == 8 then signed_shows field.number B32
    else if field.kind == 9 then signed_shows field.number B64
    else if field.kind == 10
    then signed_shows (signed_halves field.number field.natural) B128
    else real_shows field

-- what a field shows under a trait and a spec
abbrev pub field_shows : Field → Trait → Spec → Shown
field_shows field t spec =
    if field.kind == 0 then text_shows some_text field.text.now
    else if field.kind == 1 then text_shows plain_text field.text.now
    else if field.kind == 2 then truth_value (not (field.natural == 0))
    else if field.kind == 3 then character_shows field.natural
    else if field.kind == 11 then lent_shows field.lent.now t spec
    else if field.kind == 12 then lent_shows field.lent.now t spec
    else number_shows field

-- ---- which slots it fills

-- a slot is filled, if the mask has its bit
abbrev pub when : ℕ → ℕ → (Slots Field → Field → Slots Field) → Slots Field → Field → Slots Field
when mask bit fill tree field = if bit_and mask bit == 0 then tree else fill tree field

-- the slots of a mask
abbrev pub masked_slots : ℕ → Field → Slots Field
masked_slots mask field =
    let tree = when mask 1 (with_trait Display) empty_slots field in
    let tree = when mask 2 (with_trait Debug) tree field in
    let tree = when mask 4 (with_trait Binary) tree field in
    let tree = when mask 8 (with_trait Octal) tree field in
    let tree = when mask 16 (with_trait LowerHex) tree field in
    let tree = when mask 32 (with_trait UpperHex) tree field in
    let tree = when mask 64 (with_trait LowerExp) tree field in
    when mask 128 (with_trait UpperExp) tree field

-- the slots of a kind: a text, a truth value and a character have those of debug and display, whole
-- numbers and what is lent each, and floats and decimals those of a float
abbrev pub kind_slots : Field → Slots Field
kind_slots field =
    if nat_lt field.kind 4 then with_debug_display empty_slots field
    else if nat_lt field.kind 13 then with_integer empty_slots field
    else with_float empty_slots field

-- the slots of a value
abbrev pub value_slots : Field → Slots Field
value_slots field = if field.slots == 0 then kind_slots field else masked_slots field.slots field

-- what a field stands for, by what the items stand for: a list for those from its first up to its
-- end and for the slots of its mask, and any other for its slots
abbrev pub field_slots : List (Slots Field) → Field → Slots Field
field_slots trees field =
    if field.kind == 11
    then with_iter (masked_slots field.slots field) (drop field.first (take field.end trees))
    else value_slots field

-- each item stands for what its field says, lists included
abbrev pub AreTrees : List Field → List (Slots Field) → Type 0
AreTrees items trees = trees ≡ map (field_slots trees) items

-- ---- a row

-- the last field of a name, which is given by its bytes
abbrev pub last_named : List Field → List ℕ → Option Field
last_named fields name = find (λ field. bytes_eq name field.name.now) (reverse fields)

-- what a row has under a name
abbrev pub found_in : List Field → List (Slots Field) → List ℕ → Option (Slots Field)
found_in fields trees name =
    option_map (field_slots trees) (last_named fields (encode_utf8_all name))

-- ---- where lists lie

-- a list lies within so many items
abbrev pub lies_within : ℕ → Field → Bool
lies_within count field =
    not (field.kind == 11) || (not (nat_lt field.end field.first) && not (nat_lt count field.end))

-- all lists among these do
abbrev pub all_within : ℕ → List Field → Bool
all_within count fields = list_all (lies_within count) fields

-- a list begins before a place
abbrev pub begins_before : ℕ → Field → Bool
begins_before from field = field.kind == 11 && nat_lt field.first from

-- the place after the last of some, which is found among others or is the one before them
abbrev pub after_last : ℕ → Bool → ℕ
after_last zero is_first = if is_first then 1 else 0
after_last (suc n) is_first = suc (suc n)

-- the place after the last list that begins before a place; 0 if there is none
abbrev pub settled : ℕ → List Field → ℕ
settled from [] = 0
settled from (item ∷ items) = after_last (settled from items) (begins_before from item)

-- all items from `left` on are known; so are those from the item on after which each list begins there
-- or later, and after so many levels all are
abbrev pub lie_in_levels : ℕ → List Field → (left : ℕ) → Bool
lie_in_levels levels items zero = true
lie_in_levels zero items (suc left) = false
lie_in_levels (suc levels) items (suc left) =
    lie_in_levels levels items (settled (suc left) items)

-- each list lies within the items
abbrev pub all_lie_within : (fields items : List Field) → Bool
all_lie_within fields items = all_within (length items) fields && all_within (length items) items

-- each list lies within the items; and those among the items begin after the list, level by level
abbrev pub lists_lie : (fields items : List Field) → Bool
lists_lie fields items = all_lie_within fields items && lie_in_levels 64 items (length items)
