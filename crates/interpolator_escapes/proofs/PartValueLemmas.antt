-- Whatever the escape, a format has the same values in its parts.
use Rattle.std.proofs.Common.{◌≡◌, ℕ, Bool, true, false, List, [], ◌∷◌, ◌++◌, refl, ap, sym, ◌∙◌}
use Rattle.std.proofs.Common.{Option, Some, None, is_some, append-nil}
use Rattle.interpolator_render.specs.{declared.view.Trait.Trait, declared.view.Spec.Spec}
use Rattle.interpolator_syntax.specs.Places.{At}
use Rattle.interpolator_syntax.specs.Nodes.{Node, node, Branch, no_branch, branch, as_forest}
use Rattle.interpolator_syntax.specs.Nodes.{Forest, no_nodes, nodes_and, nodes, text_content}
use Rattle.interpolator_syntax.specs.Nodes.{argument_content, fault_content, target_value}
use Rattle.interpolator_syntax.specs.Nodes.{target_list}
use Rattle.interpolator_eval.specs.Meaning.Environments.{Environment, slots_under, bind}
use Rattle.interpolator_eval.specs.{Slots.Slots, Slots.items, Meaning.Choices.chosen_items}
use Rattle.interpolator_escapes.specs.Parts.{Part, literal, value, values_in}
use Rattle.interpolator_escapes.specs.FormatParts.{found_parts, parts_after, items_parts}
use Rattle.interpolator_escapes.specs.FormatParts.{padded_parts, list_parts, node_parts, join_parts}
use Rattle.interpolator_escapes.specs.FormatParts.{item_parts, forest_parts, parts_of}

values-append : (ps qs : List Part) → values_in (ps ++ qs) ≡ values_in ps ++ values_in qs
values-append [] qs = refl
values-append (literal cs ∷ ps) qs = values-append ps qs
values-append (value cs ∷ ps) qs = ap (λ texts. cs ∷ texts) (values-append ps qs)

filled_values : (ps : List Part) (cs : List ℕ) → values_in (ps ++ literal cs ∷ []) ≡ values_in ps
filled_values ps cs = values-append ps (literal cs ∷ []) ∙ append-nil (values_in ps)

-- two lists of parts have the same values
record Alike (ps qs : List Part) : Type 0 where
  same : values_in ps ≡ values_in qs

alike_itself : (ps : List Part) → Alike ps ps
alike_itself ps = record { same = refl }

alike_both : (ps qs vs ws : List Part) → Alike ps qs → Alike vs ws → Alike (ps ++ vs) (qs ++ ws)
alike_both ps qs vs ws h j = record {
  same = rw (values-append ps vs, values-append qs ws, h.same, j.same) refl;
}

alike_filled : (ps qs : List Part) (us bs cs ds : List ℕ) → Alike ps qs
    → Alike (literal us ∷ (ps ++ literal bs ∷ [])) (literal cs ∷ (qs ++ literal ds ∷ []))
alike_filled ps qs us bs cs ds h = record {
  same = filled_values ps bs ∙ h.same ∙ sym (filled_values qs ds);
}

module _ {A : Type 0} (between other : List Part) (each item : A → List Part)
    (joins : Alike between other) (alike : (x : A) → Alike (each x) (item x)) where
  alike_after : (xs : List A) → Alike (parts_after between each xs) (parts_after other item xs)
  alike_after [] = alike_itself []
  alike_after (x ∷ xs) =
      alike_both between other _ _ joins
      (alike_both (each x) (item x) _ _ (alike x) (alike_after xs))

  alike_items : (xs : List A) → Alike (items_parts between each xs) (items_parts other item xs)
  alike_items [] = alike_itself []
  alike_items (x ∷ xs) = alike_both (each x) (item x) _ _ (alike x) (alike_after xs)

alike_found : {A : Type 0} (ps qs : A → List Part) (o : Option A) → ((x : A) → Alike (ps x) (qs x))
    → Alike (found_parts ps o) (found_parts qs o)
alike_found ps qs None h = alike_itself []
alike_found ps qs (Some x) h = h x

module _ (f g : ℕ → List ℕ) where
  alike_padded : (spec : Spec) (ps qs : List Part) → Alike ps qs
      → Alike (padded_parts f spec ps) (padded_parts g spec qs)
  alike_padded spec ps qs h = alike_filled ps qs _ _ _ _ h

  alike_list : (spec : Spec) (ps qs : List Part) (b : Bool) → is_some spec.width ≡ b → Alike ps qs
      → Alike (list_parts f spec ps) (list_parts g spec qs)
  alike_list spec ps qs false e h = rw e h
  alike_list spec ps qs true e h = rw e (alike_padded spec ps qs h)

  module _ {X : Type 0} (of_value : X → Trait → Spec → List Part) where
    mutual
      node_alike : (x : Node) (e : Environment X)
          → Alike (node_parts f of_value e x) (node_parts g of_value e x)
      node_alike (node place end kind None item join) e = alike_itself []
      node_alike (node place end kind (Some (text_content from cs)) item join) e =
          alike_itself (literal cs ∷ [])
      node_alike (node place end kind (Some (fault_content w)) item join) e = alike_itself []
      node_alike (node place end kind (Some (argument_content start name spec (target_value t) q))
          item join) e =
          alike_found _ _ (slots_under e name) (λ x. alike_itself _)
      node_alike (node place end kind (Some (argument_content start name spec (target_list range)
          q)) item join) e =
          alike_found _ _ (slots_under e name) (λ x. alike_found _ _ (items x)
          (λ xs. alike_list spec
          (items_parts (join_parts f of_value e join) (item_parts f of_value e item)
          (chosen_items range xs))
          (items_parts (join_parts g of_value e join) (item_parts g of_value e item)
          (chosen_items range xs)) (is_some spec.width) refl
          (alike_items (join_parts f of_value e join) (join_parts g of_value e join)
          (item_parts f of_value e item) (item_parts g of_value e item) (join_alike join e)
          (λ y. item_alike item e y) (chosen_items range xs))))

      join_alike : (b : Branch) (e : Environment X)
          → Alike (join_parts f of_value e b) (join_parts g of_value e b)
      join_alike no_branch e = alike_itself []
      join_alike (branch xs) e = forest_alike xs e

      item_alike : (b : Branch) (e : Environment X) (x : Slots X)
          → Alike (item_parts f of_value e b x) (item_parts g of_value e b x)
      item_alike no_branch e x = alike_itself _
      item_alike (branch xs) e x = forest_alike xs (bind e x)

      forest_alike : (xs : Forest) (e : Environment X)
          → Alike (forest_parts f of_value e xs) (forest_parts g of_value e xs)
      forest_alike no_nodes e = alike_itself []
      forest_alike (nodes_and x xs) e =
          alike_both _ _ _ _ (node_alike x e) (forest_alike xs e)

    pub same_values : (e : Environment X) (a : At)
        → values_in (parts_of f of_value e a) ≡ values_in (parts_of g of_value e a)
    same_values e a = (forest_alike (as_forest (nodes a)) e).same
