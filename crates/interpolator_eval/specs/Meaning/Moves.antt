-- What a meaning is at another base: the same, with every place moved by `by` bytes.
use Rattle.std.specs.Prelude.{ℕ, ◌+◌, map, option_map}
use Rattle.interpolator_syntax.specs.{Places.Placed, Moved.moved_fault}
use Rattle.interpolator_eval.specs.Meaning.Meanings.{Meaning}

module _ (by : ℕ) where
  -- each character of a placed text
  abbrev pub moved_text : Placed → Placed
  moved_text text = map (λ x. (x.0, x.1 + by)) text

  -- text and fault; memory points are counts of characters, and stay
  abbrev pub moved_meaning : Meaning → Meaning
  moved_meaning m = record {
    text = moved_text m.text;
    fault = option_map (moved_fault by) m.fault;
    memory_points = m.memory_points;
  }
