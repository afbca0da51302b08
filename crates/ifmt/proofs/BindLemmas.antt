-- What the words bind, one after the other.
use Rattle.std.proofs.Common.{◌≡◌, ◌∙◌, refl, ap, subst, ℕ, ◌+◌, ◌<◌, List, [], ◌∷◌, ◌++◌, take}
use Rattle.std.proofs.Common.{length, get_or, map, string_bytes, Option, None, Some}
use Rattle.std.proofs.lemmas.List.Elements.{All-head, All-tail}
use Rattle.std.proofs.{Math.Path.fun_ext, lemmas.List.take_more, lemmas.Slice.Zip.all_zipped_more}
use Rattle.std.specs.Option.{option_map, unwrap_or, MatchOption}
use Rattle.std.specs.{List.AllZip, List.FoldsTo, declared.string.String.String}
use Rattle.interpolator.specs.NameMaps.{under, stored_slots, HasPut, IsEntry}
use Rattle.interpolator.specs.declared.{View.View, Formattable.Formattable, NameMap.NameMap}
use Rattle.interpolator.specs.{Slots.Slots, Slots.slots_of, Slots.empty_slots, Views.shown_as_value}
use Rattle.words.specs.declared.Word.TheVariants.{Text, Number, Decimal as DecimalWord}
use Rattle.words.specs.declared.Word.TheVariants.{Float as FloatWord, List as ListWord, Bad}
use Rattle.words.specs.{declared.Word.Word, Words.IsGood, Words.Classifies}
use Rattle.ifmt.specs.Binding.{Binds, Changes, Fills, HasObject, Lends, items_show}
use Rattle.words.specs.Lists.{item_slots}
use Rattle.ifmt.specs.Binding.{object_shows}
use Rattle.ifmt.specs.{declared.binding.Object.Object, declared.binding.Entry.Entry}
use Rattle.ifmt.specs.Command.{AllGood}

module _ {X : Type 0} (IsDefault : Formattable X → Type 0)
    (default : (value : Formattable X) → IsDefault value → slots_of value ≡ empty_slots) where
  -- the slots that an entry had, or empty ones
  lent_slots : (was : Option (Formattable X)) (lent : Formattable X)
      → MatchOption was (IsDefault lent) (λ value. lent ≡ value)
      → slots_of lent ≡ unwrap_or (option_map slots_of was) empty_slots
  lent_slots None lent is = default lent is
  lent_slots (Some value) lent is = ap slots_of is

  -- what was changed in an entry is changed under its name
  pub changed : (old new : NameMap (Formattable X)) (name : List ℕ) (lent last : Formattable X)
      (change : Slots X → Slots X)
      → IsEntry IsDefault old name lent → HasPut old name last new
      → slots_of last ≡ change (slots_of lent)
      → Changes (stored_slots old) name change (stored_slots new)
  changed old new name lent last change entry put is = record {
    here = rw put.here (ap Some (is ∙ ap change (lent_slots (under old name) lent entry)));
    others = λ other differs. ap (option_map slots_of) (put.others other differs);
  }

-- an entry was filled in
abbrev pub IsFilled : (old : List ℕ → Option (Slots View)) → Entry
    → (new : List ℕ → Option (Slots View)) → Type 0
IsFilled old entry new = Fills old entry.word entry.value.now (map slots_of entry.items.items) new

-- the entries, in their order, were filled in, and nothing was there before
abbrev pub AreFilled : List Entry → (finds : List ℕ → Option (Slots View)) → Type 0
AreFilled entries finds = FoldsTo IsFilled (λ _. None) entries finds

-- one more of each list
pub zip_more : {A B : Type 0} (R : A → B → Type 0) (xs : List A) (i : ℕ) (x : A) (ys : List B) (y : B)
    → i < length xs → x ≡ get_or xs i x → AllZip R (take i xs) ys → R x y
    → AllZip R (take (i + 1) xs) (ys ++ (y ∷ []))
zip_more R xs i x ys y within here so_far more =
    rw (take_more xs i x within, ← here) (all_zipped_more R (take i xs) ys x y so_far more)

-- a word with its objects, from what was said of each
pub has_object : (text spelled : List ℕ) (word : Word) (object : Object) → spelled ≡ text →
    Classifies spelled word → object.word ≡ word →
    shown_as_value object.value ≡ object_shows word →
    map shown_as_value object.items.items ≡ items_show word → HasObject text object
has_object text spelled word object same means is shows items = record {
  classified = rw (← same, is) means;
  value = rw is shows;
  items = rw is items;
}

-- what is filled in a map with no name is filled in nothing
pub none_filled : (map : NameMap (Formattable View)) (entries : List Entry)
    (finds : List ℕ → Option (Slots View)) → ((name : List ℕ) → under map name ≡ None)
    → FoldsTo IsFilled (stored_slots map) entries finds → AreFilled entries finds
none_filled map entries finds none filled =
    subst (λ start. FoldsTo IsFilled start entries finds)
    (fun_ext (λ name. ap (option_map slots_of) (none name))) filled

-- objects of a word that is filled in are what the word binds
binds : (text : List ℕ) (word : Word) (value : View) (objects : List View)
    (old new : List ℕ → Option (Slots View)) → IsGood text → Classifies text word →
    shown_as_value value ≡ object_shows word → map shown_as_value objects ≡ items_show word →
    Fills old word value (item_slots objects) new → Binds old text new
binds text (Text _ _) value objects old new good means shows items filled =
    (_, (means _).1 refl, _, λ before. (value, shows, refl), filled)
binds text (Number _ _) value objects old new good means shows items filled =
    (_, (means _).1 refl, _, λ before. (value, shows, refl), filled)
binds text (DecimalWord _ _) value objects old new good means shows items filled =
    (_, (means _).1 refl, _, λ before. (value, shows, refl), filled)
binds text (FloatWord _ _) value objects old new good means shows items filled =
    (_, (means _).1 refl, _, λ before. (value, shows, refl), filled)
binds text (ListWord _ _) value objects old new good means shows items filled =
    (_, (means _).1 refl, _, λ before. (objects, items, refl), filled)
binds text Bad value objects old new good means shows items filled =
    let same = (means good.0).0 good.1 in cc

-- and so is an entry that lends them
entry_binds : (text : List ℕ) (object : Object) (entry : Entry)
    (old new : List ℕ → Option (Slots View)) → IsGood text → HasObject text object →
    Lends object entry → IsFilled old entry new → Binds old text new
entry_binds text object entry old new good has lends filled =
    let of_object : Fills old object.word object.value (item_slots object.items.items) new =
    rw (← lends.same_word, ← lends.same_value, ← lends.filled) filled in
    binds text object.word object.value object.items.items old new good has.classified has.value
    has.items of_object

-- entries that are filled in are what their words bind
pub binds_all : {Z : Type 0} (words : List (String Z)) (objects : List Object)
    (entries : List Entry) (old new : List ℕ → Option (Slots View)) → AllGood words
    → AllZip (λ word object. HasObject (string_bytes word) object) words objects
    → AllZip Lends objects entries → FoldsTo IsFilled old entries new
    → FoldsTo (λ old word new. Binds old (string_bytes word) new) old words new
binds_all [] [] [] old new good has lends filled = filled
binds_all (word ∷ words) (object ∷ objects) (entry ∷ entries) old new good has lends filled = (
  filled.0,
  entry_binds (string_bytes word) object entry old filled.0
      (All-head (λ each. IsGood (string_bytes each)) word words good) has.0 lends.0 filled.1,
  binds_all words objects entries filled.0 new
      (All-tail (λ each. IsGood (string_bytes each)) word words good) has.1 lends.1 filled.2,
)
binds_all _ (_ ∷ _) [] old new good has lends filled = absurd lends
binds_all _ [] (_ ∷ _) old new good has lends filled = absurd lends
binds_all _ _ _ old new good has lends filled = absurd has
