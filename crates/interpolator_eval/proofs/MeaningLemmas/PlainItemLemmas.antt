-- Item formats by which items are displayed plainly, and joins that are text.
use Rattle.std.proofs.Common.{◌≡◌, ℕ, List, [], refl, arith, Option, None, Some, Ok, IfSome, ◌+◌}
use Rattle.std.proofs.Common.{inl, inr, option_map}
use Rattle.interpolator_render.specs.{declared.view.Spec.Spec, declared.view.Trait.Trait}
use Rattle.interpolator_render.specs.{declared.view.Trait.TheVariants.Display, Views.Shown}
use Rattle.interpolator_syntax.specs.Groups.{Group, group_of, inside}
use Rattle.interpolator_syntax.specs.{Arguments.Argument, Arguments.argument_at, Places.At}
use Rattle.interpolator_syntax.specs.{Places.strip}
use Rattle.interpolator_syntax.specs.{Classes.close_brace, Faults.Fault}
use Rattle.interpolator_syntax.specs.declared.group.Group as code_group
use Rattle.interpolator_syntax.specs.Nodes.{Forest, group_branch, no_nodes, nodes, token_node}
use Rattle.interpolator_syntax.specs.Pieces.{argument_from}
use Rattle.interpolator_syntax.specs.SpecTexts.{of_value, plain_spec}
use Rattle.interpolator_syntax.specs.Tokens.{argument, first_token, literals}
use Rattle.interpolator_eval.specs.Meaning.Environments.{Environment, bind}
use Rattle.interpolator_eval.specs.Meaning.Meanings.{Meaning, chain, forest_means, nothing}
use Rattle.interpolator_eval.specs.Meaning.Meanings.{plain_item_means}
use Rattle.interpolator_eval.specs.Meaning.Sources.{IsBare, IsBareFirst, IsFramed, IsPlainItem}
use Rattle.interpolator_eval.specs.Meaning.Sources.{IsText, ListArgument, RunFirst, framed_means}
use Rattle.interpolator_eval.specs.Meaning.Sources.{framed_pieces, list_item, list_item_work}
use Rattle.interpolator_eval.specs.Meaning.Sources.{run_means, run_pieces}
use Rattle.interpolator_eval.specs.Meaning.Work.{Work, forest_work, no_work, or_stop, piece_and}
use Rattle.interpolator_eval.specs.{Slots.Slots, Meaning.ScannedLists.text_forest}
use Rattle.interpolator_eval.specs.declared.evaluate.plain_item.PlainItem.{PlainItem}
use Rattle.interpolator_eval.proofs.MeaningLemmas.MeaningLemmas.{joined_none, nothing_last}
use Rattle.interpolator_eval.proofs.MeaningLemmas.ScanLemmas.{text_empty, text_next}

-- ---- groups of a text

-- an argument at a without name and spec
pub bare_here :
    (a : At) (p : ℕ) (x : Argument) (q rest : At) → argument_at a ≡ Ok (x, q) → x.name ≡ []
    → x.spec ≡ plain_spec → x.kind ≡ of_value Display → strip close_brace q ≡ Some rest
    → IsBare q.place (token_node nodes p argument a)
unfolding argument_from
bare_here a p x q rest h name spec kind closed = record {
  place = p;
  last = rest.place;
  start = a.place;
  is = rw (h, closed, name, spec, kind) refl;
}

-- and the text after it
pub rest_here : (a : At) (x : Argument) (q rest : At) → argument_at a ≡ Ok (x, q)
    → strip close_brace q ≡ Some rest → (argument_from a.place a).rest ≡ rest
unfolding argument_from
rest_here a x q rest h closed = rw (h, closed) refl

-- text at a, after which nothing follows
pub run_alone : (a : At) (cs : List ℕ) (x : At) → first_token a ≡ Some (literals cs, x)
    → x.text ≡ []
    → RunFirst (Some (record { place = a.place; text = cs })) no_nodes (text_forest a)
run_alone a cs x h none =
    let is = text_next a (literals cs, x) h in
    (_, record { last = x.place; is = refl }, rw (is, text_empty x none) refl)

-- a group that is such a text
pub text_group :
    (g : Group) (o : Option code_group.Group)
    → RunFirst (option_map group_of o) no_nodes (text_forest (inside g))
    → IfSome o (λ r. IsText (group_of r) (group_branch nodes (Some g)))
text_group g None h = tt
text_group g (Some r) (x, run, is) = record { last = run.last; is = rw (is, run.is) refl }

-- a group of a text, and an argument with what follows it
pub group_framed :
    (g : Group) (a : At) (cs : List ℕ) (x : At) (before : Option code_group.Group)
    (o : Option PlainItem) → a ≡ inside g → first_token a ≡ Some (literals cs, x)
    → option_map group_of before ≡ Some (record { place = a.place; text = cs })
    → IfSome o (λ p. IsBareFirst p.place (option_map group_of p.after) (text_forest x))
    → IfSome o (λ p. p.before ≡ before)
    → IfSome o (λ p. IsFramed (option_map group_of p.before) p.place (option_map group_of p.after)
    (group_branch nodes (Some g)))
group_framed g a cs x before None begins h same bare is = tt
group_framed g a cs x before (Some p) begins h same bare is = record {
  all = text_forest a;
  rest = text_forest x;
  is = rw begins refl;
  front =
      rw (is, same) (_, record { last = x.place; is = refl }, text_next a (literals cs, x) h);
  bare = bare;
}

-- ---- what an item means

module _ {X : Type 0} (shows : X → Trait → Spec → Shown) (e : Environment X) (s : Slots X) where
  abbrev Mean : Forest → Meaning
  Mean xs = forest_means shows (bind e s) xs

  abbrev Displayed : (q : ℕ) → Meaning
  Displayed q = plain_item_means shows q s

  -- a text, and then other pieces
  run_then : (o : Option Group) (rest all : Forest) → RunFirst o rest all
      → Mean all ≡ chain (run_means o) (Mean rest)
  run_then None rest all h = rw (h, joined_none (Mean rest)) refl
  run_then (Some g) rest all (x, run, is) = rw (is, run.is) refl

  run_last : (o : Option Group) (all : Forest) → RunFirst o no_nodes all → Mean all ≡ run_means o
  run_last o all h = rw (run_then o no_nodes all h, nothing_last) refl

  bare_then : (q : ℕ) (o : Option Group) (all : Forest) → IsBareFirst q o all
      → Mean all ≡ chain (Displayed q) (run_means o)
  bare_then q o all h = rw (h.is, h.bare.is, ← run_last o h.back h.behind) refl

  pub item_framed : (p : PlainItem) (x : ListArgument) → IsPlainItem p x
      → list_item shows e x s
      ≡ framed_means (option_map group_of p.before) (option_map group_of p.after)
      (Displayed p.place)
  item_framed p x (inl h) =
      rw (h.0, h.1, h.2, h.3, joined_none (chain (Displayed p.place) nothing), nothing_last) refl
  item_framed p x (inr h) = rw (
    h.is,
    run_then _ h.rest h.all h.front,
    bare_then p.place _ h.rest h.bare,
  ) refl

  -- ---- through how many pieces it goes

  abbrev Pieces : Forest → ℕ
  Pieces xs = (forest_work shows (bind e s) xs).pieces

  run_then_pieces : (o : Option Group) (rest all : Forest) → RunFirst o rest all
      → Pieces all ≡ run_pieces o + Pieces rest
  run_then_pieces None rest all h = rw h (omega arith)
  run_then_pieces (Some g) rest all (x, run, is) = rw (is, run.is) (grind arith)

  stop_pieces : (f : Option Fault) (o : Option Group) (w : Work) → w.pieces ≡ run_pieces o
      → (or_stop f (piece_and no_work) w).pieces ≡ framed_pieces None o f
  stop_pieces None o w h = rw h (omega arith)
  stop_pieces (Some f) o w h = omega arith

  bare_then_pieces : (q : ℕ) (o : Option Group) (all : Forest) → IsBareFirst q o all
      → Pieces all ≡ framed_pieces None o (Displayed q).fault
  bare_then_pieces q o all h =
      let last : Pieces h.back ≡ run_pieces o
      = omega (arith, run_then_pieces o no_nodes h.back h.behind) in
      rw (h.is, h.bare.is)
      (stop_pieces (Displayed q).fault o (forest_work shows (bind e s) h.back) last)

  pub item_framed_pieces : (p : PlainItem) (x : ListArgument) → IsPlainItem p x
      → (list_item_work shows e x s).pieces
      ≡ framed_pieces (option_map group_of p.before) (option_map group_of p.after)
      (Displayed p.place).fault
  item_framed_pieces p x (inl h) = grind arith
  item_framed_pieces p x (inr h) =
      grind (arith, run_then_pieces, bare_then_pieces p.place _ h.rest h.bare)
