-- What a walk over the faults of a format has reported: the first of them, or all.
use Rattle.std.specs.Prelude.{◌≡◌, ⊤, Bool, true, false, List, [], ◌++◌, map, Option, Some, None}
use Rattle.interpolator_syntax.specs.Faults.{Fault, Answer, fault, no_memory, answer_of}
use Rattle.interpolator_syntax.specs.Faults.{missing_value}
use Rattle.interpolator_pieces.specs.NodeChecks.{first_fault}
use Rattle.interpolator_pieces.specs.declared.fault_collector.FaultCollector.{FaultCollector}

-- the fault is that a value is missing; its name is copied
abbrev pub NamesMissing : Option Fault → Type 0
NamesMissing (Some (missing_value name place)) = ⊤
NamesMissing _ = ⊥

-- the first of these faults is returned, if there is one; or there is no memory for the name in it
abbrev pub AnswersFirst : List Fault → Option Answer → Type 0
AnswersFirst fs None = first_fault fs ≡ None
AnswersFirst fs (Some (fault f)) = first_fault fs ≡ Some f
AnswersFirst fs (Some no_memory) = NamesMissing (first_fault fs)

-- the faults that are kept
abbrev pub kept_by : FaultCollector → List Answer
kept_by collector = map answer_of collector.kept.items

-- the error is that memory was refused
abbrev pub is_no_memory : Answer → Bool
is_no_memory no_memory = true
is_no_memory (fault f) = false

-- after a walk over these faults: all are kept, or there are none; or the first is returned, if
-- only the first is reported; or memory was refused
abbrev pub Collects : List Fault → (old new : FaultCollector) → Option Answer → Type 0
Collects fs old new None =
    (new.only_first ≡ old.only_first) × (old.only_first ≡ true → fs ≡ [])
    × (kept_by new ≡ kept_by old ++ map fault fs)
Collects fs old new (Some (fault f)) = (old.only_first ≡ true) × (first_fault fs ≡ Some f)
Collects fs old new (Some no_memory) = old.only_first ≡ true → NamesMissing (first_fault fs)
