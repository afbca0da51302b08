-- The cost of stored pieces, as the code computes it: each count stops at the greatest `usize`.
use Rattle.std.proofs.Common.{rules, ◌≡◌, arith, ℕ, ◌+◌, ◌-◌, ◌*◌, List, Option, Some, IsSome}
use Rattle.std.proofs.Common.{option_map}
use Rattle.std.proofs.{lemmas.Bool.cases_lt, Math.Nat.mul-le-mul_left}
use Rattle.interpolator_render.specs.{Lengths.usize_count, declared.view.Spec.Spec}
use Rattle.interpolator_render.specs.declared.view.Trait.TheVariants.{Display}
use Rattle.interpolator_syntax.specs.{SpecTexts.plain_spec, Nodes.Content}
use Rattle.interpolator_pieces.specs.NodeCosts.{piece_cost, then_cost, items_cost, padded_cost}
use Rattle.interpolator_pieces.specs.NodeCosts.{list_cost, value_cost, content_cost, usize_cost}
use Rattle.interpolator_pieces.specs.Stored.{detail_of, content_of}
use Rattle.interpolator_pieces.specs.{declared.cost.Cost.Cost, declared.cost.Limits.Limits}
use Rattle.interpolator_pieces.specs.declared.piece.Form.TheVariants as forms
use Rattle.interpolator_pieces.specs.{declared.piece.Piece.Piece, declared.piece.Form.Form}
use Rattle.std.specs.Prelude.{⊤}

-- ---- costs

-- costs with the same counts
pub same_cost : {c d p q b e : ℕ} → c ≡ d → p ≡ q → b ≡ e
    → ◌≡◌ {A = Cost} (record { characters = c; pieces = p; buffered = b })
    (record { characters = d; pieces = q; buffered = e })
same_cost h k l = cc

-- ---- a list

capped_product : (n a : ℕ) → usize_count (n * usize_count a) ≡ usize_count (n * a)
capped_product n a = grind (arith, cases_lt, mul-le-mul_left)

-- n times one count, and n - 1 times another
capped_repeated : (n a b : ℕ)
    → usize_count (n * usize_count a + (n - 1) * usize_count b) ≡ usize_count (n * a + (n - 1) * b)
capped_repeated n a b = search (rules, capped_product)

capped_items : (n : ℕ) (item join : Cost)
    → usize_cost (items_cost n (usize_cost item) (usize_cost join))
    ≡ usize_cost (items_cost n item join)
capped_items n item join = grind (arith, same_cost, capped_repeated)

-- the limited cost of a list depends on the limited cost of its items
capped_padded : (width : Option ℕ) (a b : Cost) → usize_cost a ≡ usize_cost b
    → usize_cost (then_cost (piece_cost 0) (padded_cost width a))
    ≡ usize_cost (then_cost (piece_cost 0) (padded_cost width b))
capped_padded width a b h = grind (arith, same_cost)

-- ---- one piece

module _ (limits : Limits) where
  pub capped_content : (h : Content) (item join : Cost)
      → usize_cost (content_cost limits h (usize_cost item) (usize_cost join))
      ≡ usize_cost (content_cost limits h item join)
  capped_content h item join = grind (arith, capped_padded, capped_items)

  module _ (item join : Cost) where
    abbrev reported : Content → Cost
    reported h = usize_cost (content_cost limits h item join)

    -- what an argument costs, by its form
    abbrev pub Reported : Spec → Form → Option Content → Type 0
    Reported spec forms.Plain held =
        option_map reported held ≡ Some (usize_cost (value_cost limits Display plain_spec))
    Reported spec (forms.Value t) held =
        option_map reported held ≡ Some (usize_cost (value_cost limits t spec))
    Reported spec (forms.List range) held =
        option_map reported held ≡ Some (usize_cost (list_cost limits (range) spec item join))
    Reported spec _ held = ⊤

    pub form_reported : (bs : List ℕ) (x : Piece) → IsSome (content_of bs x)
        → Reported (detail_of x).spec (detail_of x).form (content_of bs x)
    form_reported bs x held = grind arith
