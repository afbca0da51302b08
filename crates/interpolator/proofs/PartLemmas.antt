-- What parts mean, one after the other, and what their joined text means.
use Rattle.std.proofs.Common.{◌≡◌, ◌≢◌, ℕ, ◌+◌, List, [], ◌∷◌, ◌++◌, length, arith, ◌∙◌, sym}
use Rattle.std.proofs.Common.{Option, Some, None, append_assoc, append-nil, ◌<◌, drop, get_or}
use Rattle.std.proofs.lemmas.List.{drop_more}
use Rattle.std.specs.{Borrow.Bor, Str.chars}
use Rattle.interpolator_render.specs.{declared.view.Trait.Trait, declared.view.Spec.Spec}
use Rattle.interpolator_render.specs.{Views.Shown, Writers.Written}
use Rattle.interpolator_syntax.specs.{Places.At, Places.size, Places.outermost, Pieces.PieceKind}
use Rattle.interpolator_syntax.specs.{Pieces.Piece}
use Rattle.interpolator_syntax.specs.{Nodes.nodes, Nodes.piece_node, Faults.Answer}
use Rattle.interpolator.specs.Seams.{kind_ending, piece_ending, last_ending, ending}
use Rattle.interpolator.specs.Meaning.Parts.{joined_text, texts_of, parts_mean, CleanBehind, Clean}
use Rattle.interpolator.specs.Meaning.Parts.{FrontsClose}
use Rattle.interpolator.specs.{declared.parts.Ending.Ending, declared.parts.Ending.TheVariants.Open}
use Rattle.interpolator_eval.specs.Meaning.Meanings.{Meaning, chain, node_means, pieces_mean, means}
use Rattle.interpolator_eval.specs.Meaning.Sinks.{Writes, taken_by}
use Rattle.interpolator_eval.specs.{Meaning.Environments.Environment, Meaning.Outcomes.Outcome}
use Rattle.interpolator_eval.specs.declared.evaluate.sink.Sink.{Sink}
use Rattle.interpolator_syntax.proofs.LocalityLemmas.{stands, size-append}
use Rattle.interpolator_syntax.proofs.{CaseLemmas.none_some, PieceLemmas.pieces_none}
use Rattle.interpolator.proofs.SeamLemmas.{Leaves, pieces_append, both_close}
use Rattle.interpolator_eval.proofs.MeaningLemmas.MeaningLemmas.{joined_assoc, means_none}
use Rattle.interpolator_eval.proofs.MeaningLemmas.MeaningLemmas.{joined_none, means_pieces}
use Rattle.interpolator_eval.proofs.MeaningLemmas.MeaningLemmas.{nothing_last, pieces_mean_append}
use Rattle.interpolator_eval.proofs.MeaningLemmas.SinkLemmas.{and_then, fault_first, nothing_done}
use Rattle.interpolator_eval.proofs.MeaningLemmas.SinkLemmas.{same_end}

pub zero_and : (n : ℕ) → 0 + n ≡ n
zero_and n = omega arith

module _ {X : Type 0} (shows : X → Trait → Spec → Shown) (e : Environment X) where
  pub means_next : (before part : List ℕ) → Leaves (ending (outermost before)) part
      → chain (means shows e (outermost before)) (means shows e (stands (size before) part))
      ≡ means shows e (outermost (before ++ part))
  means_next before part h =
      grind (arith, zero_and, means_pieces, stands, pieces_append, pieces_mean_append)

  compose_after :
      (before part : List ℕ) (parts : List (List ℕ)) → ending (outermost before) ≢ Open
      → CleanBehind before (part ∷ parts) → FrontsClose (size before) (part ∷ parts)
      → chain (means shows e (outermost before)) (parts_mean shows e (size before) (part ∷ parts))
      ≡ means shows e (outermost (before ++ joined_text (part ∷ parts)))
  compose_after before part [] h clean close =
      rw (nothing_last (means shows e (stands (size before) part)), append-nil part)
      (means_next before part (h, clean.0))
  compose_after before part (next ∷ parts) h clean close =
      let there = size-append before part in
      let closes = both_close 0 before part (h, clean.0) (rw zero_and close.0) in
      let more =
      compose_after (before ++ part) next parts closes clean.1 (rw there close.1) in
      rw (← joined_assoc, means_next before part (h, clean.0)) (rw (there, append_assoc) at more)

  -- clean parts mean what their joined text means
  pub parts_are_one : (parts : List (List ℕ)) → Clean parts → FrontsClose 0 parts
      → parts_mean shows e 0 parts ≡ means shows e (outermost (joined_text parts))
  parts_are_one [] clean close = sym (means_none shows e 0)
  parts_are_one (part ∷ parts) clean close =
      let settled : ending (outermost []) ≢ Open = rw (pieces_none 0) (λ d. cc) in
      sym (joined_none _)
      ∙ (rw (means_none shows e 0) at (compose_after [] part parts settled clean close))

  -- ---- a text without fault

  no_fault_first : (m k : Meaning) → (chain m k).fault ≡ None → (m.fault ≡ None) × (k.fault ≡ None)
  no_fault_first m k h = grind arith

  piece_closes : (p end : ℕ) (k : PieceKind)
      → (node_means shows e (piece_node nodes p end k)).fault ≡ None → kind_ending k ≢ Open
  piece_closes p end k h = grind (arith, no_fault_first, none_some)

  pieces_close : (d : Ending) (xs : List Piece) → d ≢ Open
      → (pieces_mean shows e xs).fault ≡ None
      → last_ending d xs ≢ Open
  pieces_close d [] k h = k
  pieces_close d (x ∷ xs) k h =
      grind (arith, no_fault_first, piece_closes, pieces_close (piece_ending x) xs)

  -- a text without fault ends in no argument that is unclosed or broken
  pub faultless_closes : (a : At) → (means shows e a).fault ≡ None → ending a ≢ Open
  faultless_closes a h = grind (arith, pieces_close, means_pieces)

  -- ---- runs

  module _ {W : Type 0} (written : W → Written) (p : ℕ) (parts : List (Bor (List ℕ))) where
    module _ (part : Bor (List ℕ)) (after : List (Bor (List ℕ))) (split : parts ≡ part ∷ after)
        (s t : Sink W) where
      abbrev Here : Option Answer → Type 0
      Here r = Writes written (means shows e (stands p (chars part.now))) s t r

      pub part_runs :
          (q : ℕ) (u : Written) (answer : Option Answer) → q ≡ p + size (chars part.now)
          → Here None → Outcome (parts_mean shows e q (texts_of after)) (taken_by written t) u answer
          → Outcome (parts_mean shows e p (texts_of parts)) (taken_by written s) u answer
      part_runs q u answer h o k =
          rw (split, ← h) (and_then _ _ _ _ u answer o.outcome k)

      pub part_faults : (w : Answer) → Here (Some w)
          → Writes written (parts_mean shows e p (texts_of parts)) s t (Some w)
      part_faults w o = grind (arith, fault_first)

    pub no_parts_run : (s : Sink W) → parts ≡ []
        → Writes written (parts_mean shows e p (texts_of parts)) s s None
    no_parts_run s none = grind (arith, nothing_done, same_end)

-- the part at an index, as the loop takes it; there is none past the last
abbrev pub part_at : List (Bor (List ℕ)) → ℕ → Bor (List ℕ)
part_at parts i = get_or parts i (record { ref_ptr = (0, 0); now = [] })

-- the parts from an index on
pub rest_at : (parts : List (Bor (List ℕ))) (i : ℕ) → i < length parts
    → drop i parts ≡ part_at parts i ∷ drop (i + 1) parts
rest_at parts i within = grind (arith, drop_more)
