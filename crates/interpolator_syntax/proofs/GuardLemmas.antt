-- Where the groups of an argument begin: in the text, after a `:` and the letter of a list.
use Rattle.std.proofs.Common.{◌≡◌, ℕ, ◌+◌, ◌≤◌, List, ◌∷◌, [], ◌++◌, length, arith, Bool, ◌||◌}
use Rattle.std.proofs.Common.{length-append, subst, Ok, Option, Some, None, inl, inr, append_assoc}
use Rattle.std.specs.Prelude.{⊤}
use Rattle.interpolator_render.specs.declared.view.Trait.{Trait}
use Rattle.interpolator_render.specs.declared.view.Trait.TheVariants as traits
use Rattle.interpolator_render.specs.declared.view.Alignment.{Alignment}
use Rattle.interpolator_render.specs.declared.view.Alignment.TheVariants as alignments
use Rattle.interpolator_render.specs.declared.view.HexDebug.{HexDebug}
use Rattle.interpolator_render.specs.declared.view.Sign.TheVariants as signs
use Rattle.interpolator_syntax.specs.Classes.{hash, zero_digit, colon}
use Rattle.interpolator_syntax.specs.GrammarParts.{Part, ◌>>=◌, Lies}
use Rattle.interpolator_syntax.specs.SpecGrammar.{kind, from_sign, fill, parts, trait_part}
use Rattle.interpolator_syntax.specs.SpecGrammar.{trait_text, IsSpec}
use Rattle.interpolator_syntax.specs.SpecTexts.{Kind, of_value, of_list, Request, Wanted}
use Rattle.interpolator_syntax.specs.SpecTexts.{alignment_letter, sign_letter}
use Rattle.interpolator_syntax.specs.{Places.At, Arguments.Argument, Arguments.argument_at}
use Rattle.interpolator_syntax.specs.{ArgumentGrammar.Asks, ArgumentGrammar.request_in}
use Rattle.interpolator_syntax.specs.{Groups.Group, GroupGrammar.IsGroup, ListGrammar.group_there}
use Rattle.interpolator_syntax.specs.{ListGrammar.IsList, Lists.ListRequest, Readers.Reader}
use Rattle.interpolator_syntax.proofs.GrammarArgumentLemmas.{argument_is}
use Rattle.interpolator_syntax.proofs.GrammarListLemmas.{law_range, law_group}
use Rattle.interpolator_syntax.proofs.GrammarOptionLemmas.{law_width, law_precision}
use Rattle.interpolator_syntax.proofs.LocalLemmas.{Setting, still}
use Rattle.interpolator_syntax.proofs.SimpleReaderLemmas.{Law, law_takes, law_letter, law_flag}
use Rattle.interpolator_syntax.proofs.LocalityLemmas.{Takes, takes_none, takes_then, size-append}
use Rattle.interpolator_syntax.proofs.LocalityLemmas.{takes_shorter}

-- a group begins in the text at a, after at least n characters of it
pub record BeginsAfter (n : ℕ) (g : Group) (a : At) : Type 0 where
  pub opens : At
  pub closed : At
  pub is : IsGroup opens g closed
  pub takes : Takes a opens
  pub far : n + length opens.text ≤ length a.text

-- so does a group that may be absent, if there is one
abbrev pub GroupAfter : (n : ℕ) → Option Group → At → Type 0
GroupAfter n None a = ⊤
GroupAfter n (Some g) a = BeginsAfter n g a

-- the groups of an argument's kind
abbrev pub KindAfter : (n : ℕ) → Kind → At → Type 0
KindAfter n (of_value t) a = ⊤
KindAfter n (of_list l) a = GroupAfter n l.item a × GroupAfter n l.join a

-- ---- the text after a front

-- it is no longer
pub no_longer : (n : ℕ) (a b : At) → Takes a b → n + length b.text ≤ n + length a.text
no_longer n a b t = omega (arith, takes_shorter a b t)

module _ (m n : ℕ) (a b : At) (t : Takes a b) (far : n + length b.text ≤ m + length a.text) where
  group_grows : (o : Option Group) → GroupAfter m o b → GroupAfter n o a
  group_grows None h = tt
  group_grows (Some g) h = grind (arith, takes_then)

  pub kind_grows : (k : Kind) → KindAfter m k b → KindAfter n k a
  kind_grows k h = grind (arith, group_grows)

-- at least n characters come before each group of what is read as this part
record Begins {A : Type 0} (n : ℕ) (kind_of : A → Kind) (part : Part A) : Type 0 where
  after : (a : At) (x : A) (q : At) → part.is a x q → KindAfter n (kind_of x) a

-- so do they after another part
begins_then :
    {s : Setting} {A B : Type 0} {n : ℕ} {kind_of : B → Kind} {move : A → A}
    {read other : Reader A} {part : Part A} {next : A → Part B} → Law s move read other part
    → ((x : A) → Begins n kind_of (next x)) → Begins n kind_of (part >>= next)
begins_then {n = n} {kind_of = kind_of} law k =
    grind (arith, law_takes law, no_longer n, kind_grows n n, k)

lies_takes : (a : At) (cs : List ℕ) (q : At) → Lies a cs q → Takes a q
lies_takes a cs q h = grind (arith, h)

-- ---- lists

module _ (start : ℕ) where
  abbrev s : Setting
  s = still start

  group_after : (a : At) (o : Option Group) (q : At) → (group_there start).is a o q
      → Takes a q × GroupAfter 0 o a
  group_after a o q (inl h) = grind (arith, law_takes (law_group s) a h.1.0 h.1.1 h.1.2, takes_none)
  group_after a o q (inr h) = grind (arith, takes_none)

  list_after : (a : At) (l : ListRequest) (q : At) → IsList start a l q → KindAfter 0 (of_list l) a
  list_after a l q h =
      let item = h.3 in
      let t = law_takes (law_range s) a h.0 h.1 h.2 in
      let first = group_after h.1 item.0 item.1 item.2 in
      let u = takes_then a h.1 item.1 t first.0 in
      let second = group_after item.1 item.3.0 item.3.1 item.3.2 in
      rw item.3.3.0 (
        group_grows 0 0 a h.1 t (no_longer 0 a h.1 t) item.0 first.1,
        group_grows 0 0 a item.1 u (no_longer 0 a item.1 u) item.3.0 second.1,
      )

  -- ---- specs

  kind_after : (slot : Trait) (a : At) (k : Kind) (q : At) → (kind start slot).is a k q
      → KindAfter 0 k a
  kind_after traits.Iter a k q h = rw h.3.0 (list_after a h.0 h.1 h.2)
  kind_after slot a k q h = rw h.0 tt

  -- the letter of a list is one character
  list_letter : (hex : HexDebug) (cs : List ℕ) → trait_text traits.Iter hex ≡ Some cs
      → length cs ≡ 1
  list_letter hex cs e = grind (arith, e)

  lettered_after : (slot : Trait) (hex : HexDebug) (a b : At) (cs : List ℕ) (k : Kind) (q : At)
      → trait_text slot hex ≡ Some cs → Lies a cs b → (kind start slot).is b k q → KindAfter 1 k a
  lettered_after slot hex a b cs k q e l h =
      let grows = kind_grows 0 1 a b (lies_takes a cs b l) in
      grind (arith, list_letter, grows, l.split, length-append, kind_after)

  shown_after : (flagged : Bool) (a : At) (x : Wanted) (b : At) (k : Kind) (q : At)
      → (trait_part start flagged).is a x b → (kind start x.slot).is b k q → KindAfter 1 k a
  shown_after flagged a x b k q (inl w) h =
      rw (subst (λ (y : Wanted). (kind start y.slot).is b k q) w.1 h).0 tt
  shown_after flagged a x b k q (inr w) h =
      lettered_after x.slot x.hex_debug a b w.0 k q w.1 w.2 h

  after_sign : (filled : Option ℕ) (alignment : Alignment)
      → Begins 1 (λ x. x.kind) (from_sign start filled alignment)
  after_sign filled alignment =
      begins_then (law_letter s sign_letter signs.Unset) (λ sign.
      begins_then (law_flag s hash) (λ alternate.
      begins_then (law_flag s zero_digit) (λ zero.
      begins_then (law_width s) (λ width.
      begins_then (law_precision s) (λ precision. record {
        after = λ a x q h.
            rw h.3.3.0 (shown_after (alternate || zero) a h.0 h.1 h.3.0 h.3.1 h.2 h.3.2);
      })))))

  fill_takes : (a : At) (x : Option ℕ) (q : At) → fill.is a x q → Takes a q
  fill_takes a x q (inl h) = lies_takes a (h.0 ∷ []) q h.1.0
  fill_takes a x q (inr h) = rw h.2 (takes_none a)

  parts_after : (a : At) (x : Request) (q : At) → (parts start).is a x q → KindAfter 1 x.kind a
  parts_after a x q h =
      let t = fill_takes a h.0 h.1 h.2 in
      let aligned = begins_then (law_letter s alignment_letter alignments.Unset) (after_sign h.0) in
      kind_grows 1 1 a h.1 t (no_longer 1 a h.1 t) x.kind (aligned.after h.1 x q h.3)

  spec_after : (a : At) (x : Request) (q : At) → IsSpec start a x q → KindAfter 1 x.kind a
  spec_after a x q (inl h) = rw h.1 tt
  spec_after a x q (inr h) = parts_after a x q h.1

  -- ---- arguments

  asks_after : (a : At) (x : Request) (q : At) → Asks start a x q → KindAfter 2 x.kind a
  asks_after a x q (inl h) = rw h.1 tt
  asks_after a x q (inr h) =
      let t = lies_takes a (colon ∷ []) h.0 h.1 in
      grind (arith, kind_grows 1 2 a h.0 t, spec_after h.0 x q h.2)

-- the groups of an argument begin after at least two characters
pub argument_after : (a : At) (x : Argument) (q : At) → argument_at a ≡ Ok (x, q)
    → KindAfter 2 x.kind a
argument_after a x q e =
    let h = argument_is a q x e in
    let t : Takes a h.after = record {
      front = h.named.spaces ++ x.name;
      split = rw append_assoc h.named.white.split;
      place = omega (arith, h.named.name_place, h.named.end_place, size-append);
    } in
    kind_grows 2 2 a h.after t (no_longer 2 a h.after t) x.kind
    (asks_after a.place h.after (request_in x) q h.asks)
