-- The faults of a whole text against a sample, from those of its stored pieces.
use Rattle.std.proofs.Common.{◌≡◌, ap, arith, ℕ, ◌+◌, ◌*◌, ◌^◌, ◌<◌, ◌≤◌, true, List, length}
use Rattle.std.proofs.Common.{Option}
use Rattle.std.proofs.lemmas.Str.{length-le-encodes, encodes-chars}
use Rattle.std.specs.Str.{chars, IsUtf8}
use Rattle.interpolator_render.specs.{Views.Shown, declared.view.Spec.Spec}
use Rattle.interpolator_render.specs.declared.view.Trait.{Trait}
use Rattle.interpolator_syntax.specs.{Places.outermost, Faults.Answer, Nodes.as_forest, Nodes.nodes}
use Rattle.interpolator_eval.specs.{Slots.Slots, Meaning.Samples.Sample, Meaning.Samples.sample}
use Rattle.interpolator_pieces.specs.{NodeExtents.forest_depth, NodeSamples.forest_faults_in}
use Rattle.interpolator_pieces.specs.{NodeSamples.faults_over, Stored.nodes_of, Stored.forest_whole}
use Rattle.interpolator_pieces.specs.{Collecting.Collects, declared.piece.Piece.Piece}
use Rattle.interpolator_pieces.specs.declared.fault_collector.FaultCollector.{FaultCollector}
use Rattle.interpolator.proofs.LongNestingLemmas.{deep_is_long}
use Rattle.interpolator_pieces.proofs.WholeLemmas.{nodes_whole}

-- a text is much less deep than it has characters
less_deep : (level d n most : ℕ) → level ≡ 0 → d * (d + 4) ≤ n → n < most → 4 < most
    → level + d + 1 < most
less_deep level d n most e h l few = grind arith

module _ (bs : List ℕ) (xs : List Piece) (text : List ℕ) (utf8 : IsUtf8 text)
    (same : nodes_of bs xs ≡ nodes (outermost (chars text))) where
  pub walk_whole : forest_whole (as_forest (nodes_of bs xs)) ≡ true
  walk_whole = rw same (nodes_whole (outermost (chars text)))

  pub walk_deep : (level : ℕ) → level ≡ 0 → length text < 2 ^ 64
      → level + forest_depth (as_forest (nodes_of bs xs)) + 1 < 2 ^ 64
  walk_deep level none small =
      let bytes = ap length (encodes-chars text utf8) in
      let fits : length (chars text) < 2 ^ 64 =
      omega (arith, length-le-encodes (chars text), bytes, small) in
      rw same (less_deep _ _ _ _ none (deep_is_long (outermost (chars text))) fits (omega arith))

  -- what is reported for the stored pieces is what is reported for the text
  pub walk_tells : {X : Type 0} (shows : X → Trait → Spec → Shown)
      (finds : List ℕ → Option (Slots X)) (s : Sample X) (old new : FaultCollector) (r : Option Answer)
      → s ≡ sample finds → Collects (forest_faults_in shows s (as_forest (nodes_of bs xs))) old new r
      → Collects (faults_over shows finds (outermost (chars text))) old new r
  walk_tells shows finds s old new r is reported = rw (is, same) at reported
