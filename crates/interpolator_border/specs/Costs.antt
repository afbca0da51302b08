-- How much a format can write.
use Rattle.std.specs.Prelude.{◌≡◌, ◌⊎◌, ℕ, List, true, false}
use Rattle.std.specs.Str.{chars, is_utf8}
use Rattle.interpolator_syntax.specs.Places.{outermost}
use Rattle.interpolator.specs.Template.NodeCosts.{text_cost, usize_cost}
use Rattle.interpolator.specs.declared.Cost.{Cost}
use Rattle.interpolator_border.specs.declared.costs.CostAnswer.{CostAnswer}

-- a cost, as it is told
abbrev pub cost_answer : Cost → CostAnswer
cost_answer cost = record {
  code = 0;
  detail = 0;
  characters = cost.characters;
  pieces = cost.pieces;
  buffered = cost.buffered;
}

-- a code alone, and no cost
abbrev pub no_cost : ℕ → CostAnswer
no_cost code = record { code = code; detail = 0; characters = 0; pieces = 0; buffered = 0 }

-- the cost of a format within limits; or memory was wanted, or the format is not UTF-8
abbrev pub CostAnswers : (text items : ℕ) → List ℕ → CostAnswer → Type 0
CostAnswers text items format answer =
    ((is_utf8 format ≡ true) × (answer ≡ cost_answer (usize_cost (text_cost
    (record { text = text; items = items }) (outermost (chars format))))))
    ⊎ ((answer ≡ no_cost 6) ⊎ ((answer ≡ no_cost 7) × (is_utf8 format ≡ false)))
