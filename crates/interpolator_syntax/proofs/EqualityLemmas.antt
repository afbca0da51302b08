-- What `==` of the parts of an argument tests, part by part.
use Rattle.std.proofs.Common.{◌≡◌, rules, arith, Bool, Option, Decides, int_eq, option_map}
use Rattle.std.proofs.lemmas.Bool.Decides.{Decides-and, Decides-eqb}
use Rattle.std.proofs.{lemmas.Grind.common_steps, lemmas.Slice.Eq.bytes_eq-Decides}
use Rattle.std.specs.Option.{option_eq}
use denote.Enum.Bare.{same_true, true_same}
use Rattle.interpolator_render.specs.contracts.view.Trait.{the_type as traits}
use Rattle.interpolator_render.specs.{declared.view.Spec.Spec, declared.view.Trait.Trait}
use Rattle.interpolator_render.proofs.SpecLemmas.{same_fields, same_from_fields, fields_from_same}
use Rattle.interpolator_syntax.specs.InBytes.{argument_in_bytes, group_in_bytes, kind_in_bytes}
use Rattle.interpolator_syntax.specs.declared.argument.Kind.TheVariants.{Value, List as ListKind}
use Rattle.interpolator_syntax.specs.declared.range.Range.{Range}
use Rattle.interpolator_render.specs.contracts.view.TraitPartialEq.TheImpl as trait_impl
use Rattle.interpolator_syntax.specs.contracts.argument.ArgumentPartialEq.TheImpl as argument_impl
use Rattle.interpolator_syntax.specs.contracts.argument.KindPartialEq.TheImpl as kind_impl
use Rattle.interpolator_syntax.specs.contracts.group.GroupPartialEq.TheImpl as group_impl
use Rattle.interpolator_syntax.specs.contracts.range.RangePartialEq.TheImpl as range_impl
use Rattle.interpolator_syntax.specs.declared.argument.Argument as code_argument
use Rattle.interpolator_syntax.specs.declared.argument.Kind as code_kind
use Rattle.interpolator_syntax.specs.declared.group.Group as code_group

-- ---- options and truth values

module _ {A B : Type 0} (test : A → A → Bool) (bytes : A → B)
    (each : (x y : A) → Decides (test x y) (bytes x ≡ bytes y)) where
  options_decide : (x y : Option A)
      → Decides (option_eq test x y) (option_map bytes x ≡ option_map bytes y)
  options_decide x y = grind (arith, each)

module _ {A : Type 0} (test : A → A → Bool) (each : (x y : A) → Decides (test x y) (x ≡ y)) where
  same_options : (x y : Option A) → Decides (option_eq test x y) (x ≡ y)
  same_options x y = grind (arith, each)

-- ---- ranges, groups and traits

ranges_decide : (x y : Range) → Decides (range_impl.ghosts.eq x y) (x ≡ y)
ranges_decide x y = grind (arith, common_steps, same_options, int_eq)

groups_decide : (x y : code_group.Group)
    → Decides (group_impl.ghosts.eq x y) (group_in_bytes x ≡ group_in_bytes y)
groups_decide x y = grind (arith, bytes_eq-Decides)

traits_decide : (t u : Trait) → Decides (trait_impl.ghosts.eq t u) (t ≡ u)
traits_decide t u = (same_true traits (search rules) t u, true_same traits t u)

-- ---- kinds and arguments

pub kinds_decide : (k o : code_kind.Kind)
    → Decides (kind_impl.ghosts.eq k o) (kind_in_bytes k ≡ kind_in_bytes o)
kinds_decide (Value t) (Value u) = grind (arith, traits_decide t u)
kinds_decide (ListKind r i j) (ListKind s k l) =
    let groups = options_decide group_impl.ghosts.eq group_in_bytes groups_decide in
    let ranges = same_options range_impl.ghosts.eq ranges_decide r s in
    grind (arith, Decides-and _ _ ranges (Decides-and _ _ (groups i k) (groups j l)))
kinds_decide k o = (λ e. absurd (cc), λ e. absurd (cc))

specs_decide : (x y : Spec) → Decides (same_fields x y) (x ≡ y)
specs_decide x y = (same_from_fields x y, λ e. rw (← e) (fields_from_same x))

pub arguments_decide : (x y : code_argument.Argument)
    → Decides (argument_impl.ghosts.eq x y) (argument_in_bytes x ≡ argument_in_bytes y)
arguments_decide x y =
    let names = bytes_eq-Decides x.name.now y.name.now in
    let kinds = Decides-and _ _ (specs_decide x.spec y.spec) (kinds_decide x.kind y.kind) in
    let places = Decides-and _ _ (Decides-eqb x.name_place y.name_place) kinds in
    grind (arith, Decides-and _ _ names places)
