-- What is written to a sink: a writer, or a buffer in its place.
use Rattle.std.specs.Prelude.{◌≡◌, ◌⊎◌, ℕ, ◌-◌, ◌^◌, Option, None, Some, Result, Ok, Err}
use Rattle.interpolator_render.specs.{Writers.Written, Bounds.bounded_writer, Bounds.bytes_left}
use Rattle.interpolator_syntax.specs.Faults.{Answer, fault, missing_trait_impl, fmt}
use Rattle.interpolator_eval.specs.declared.evaluate.sink.Sink.TheVariants.{Writer, Buffer}
use Rattle.interpolator_eval.specs.declared.evaluate.sink.WriteFault.TheVariants.{MissingTraitImpl}
use Rattle.interpolator_eval.specs.declared.evaluate.sink.WriteFault.TheVariants.{Fmt}
use Rattle.interpolator_eval.specs.{Meaning.Meanings.Meaning, Meaning.Outcomes.Outcome}
use Rattle.interpolator_eval.specs.declared.evaluate.sink.Sink.{Sink}
use Rattle.interpolator_eval.specs.declared.evaluate.sink.WriteFault.{WriteFault}

-- what the end of a sink has taken; `written` is what a writer has taken
abbrev pub taken_by : {W : Type 0} → (W → Written) → Sink W → Written
taken_by written (Writer out) = written out.now
taken_by written (Buffer buffer) = bounded_writer buffer.now

-- the sink is a writer, and no buffer
abbrev pub IsWriter : {W : Type 0} → Sink W → Type 0
IsWriter (Writer _) = Unit {0}
IsWriter (Buffer _) = ⊥

-- both have the same reference
abbrev pub SameEnd : {W : Type 0} → Sink W → Sink W → Type 0
SameEnd (Writer out) (Writer out') = out'.ghost_name ≡ out.ghost_name
SameEnd (Buffer buffer) (Buffer buffer') = buffer'.ghost_name ≡ buffer.ghost_name
SameEnd _ _ = ⊥

-- one of the three outcomes at the end of a sink, which has the same reference afterwards
pub record Writes {W : Type 0} (written : W → Written) (m : Meaning) (old new : Sink W)
    (answer : Option Answer) : Type 0 where
  pub outcome : Outcome m (taken_by written old) (taken_by written new) answer
  pub same : SameEnd old new

-- how many more bytes are taken at most: by a writer the `limit` that it reports, or the greatest
-- `usize` if it reports none; by a buffer what is left of it
abbrev pub HasRoom : {W : Type 0} → (limit : W → Option ℕ) → Sink W → (most : ℕ) → Type 0
HasRoom limit (Writer out) most = (limit out.now ≡ Some most) ⊎ (most ≡ 2 ^ 64 - 1)
HasRoom limit (Buffer buffer) most = most ≡ bytes_left buffer.now

-- the reason why something was not written, as an answer
abbrev pub write_fault_answer : WriteFault → Answer
write_fault_answer (MissingTraitImpl wanted place) = fault (missing_trait_impl wanted place)
write_fault_answer (Fmt place) = fault (fmt place)

-- what a call that writes to a sink returned: nothing for `Ok`
abbrev pub write_answered : {A : Type 0} → Result A WriteFault → Option Answer
write_answered (Ok _) = None
write_answered (Err reason) = Some (write_fault_answer reason)
