-- The reader of an argument is local: what it takes, where its faults lie, and what it returns
-- elsewhere.
use Rattle.std.proofs.Common.{◌≡◌, ℕ, ◌+◌, ◌≤◌, List, [], arith, refl, Result, Ok, Err, None}
use Rattle.std.proofs.Common.{append-nil}
use Rattle.interpolator_syntax.specs.Places.{At, size, strip}
use Rattle.interpolator_syntax.specs.Classes.{close_brace, colon}
use Rattle.interpolator_syntax.specs.Readers.{Reader, ◌>>=◌, give, here, span}
use Rattle.interpolator_syntax.specs.Arguments.{Argument, argument, asked_by, asked_at}
use Rattle.interpolator_syntax.specs.Arguments.{argument_parts, argument_at}
use Rattle.interpolator_syntax.specs.Faults.{Fault, fault_place}
use Rattle.interpolator_syntax.specs.Moved.{moved_at, moved_fault, moved_argument}
use Rattle.interpolator_syntax.specs.declared.class.Class.TheVariants.{WhiteSpace, Name}
use Rattle.interpolator_syntax.specs.{SpecTexts.plain_display, ArgumentFaults.IsArgumentFault}
use Rattle.interpolator_syntax.proofs.GrammarSpecLemmas.{moved_request, law_spec}
use Rattle.interpolator_syntax.proofs.LocalLemmas.{Setting, elsewhere, IsLocalValue, IsLocalFault}
use Rattle.interpolator_syntax.proofs.LocalLemmas.{Reads, local_stay, local_strip, local_on}
use Rattle.interpolator_syntax.proofs.LocalLemmas.{value_local, fault_local, reads_then}
use Rattle.interpolator_syntax.proofs.LocalityLemmas.{Takes, Guarded, with_more}
use Rattle.interpolator_syntax.proofs.LongestLemmas.{at_same}
use Rattle.interpolator_syntax.proofs.SimpleReaderLemmas.{reads_give, reads_here, reads_span}

module _ (s : Setting) where
  reads_asked : Reads s (moved_request s.by) (asked_at s.start) (asked_at (s.start + s.by))
  reads_asked = record {
    is_local = λ a.
        let b = elsewhere s a in
        let move = moved_request s.by in
        local_strip s move close_brace a.place a.text
        (λ o. asked_by s.start a o (strip colon a))
        (λ o. asked_by (s.start + s.by) b o (strip colon b))
        (local_strip s move colon a.place a.text (asked_by s.start a None)
        (asked_by (s.start + s.by) b None)
        (tt, λ from. omega arith, λ from. omega arith, λ none. refl)
        (λ rest e t.
        let law = law_spec s in local_on law.reads a rest t))
        (λ rest e t. local_stay s move a plain_display);
  }

  -- the request after a name at p, with that name
  abbrev asks : (start p : ℕ) → List ℕ → Reader Argument
  asks start p name = asked_at start >>= λ asked. give (argument name p asked)

  abbrev names : (start p : ℕ) → Reader Argument
  names start p = span Name >>= asks start p

  reads_argument :
      Reads s (moved_argument s.by) (argument_parts s.start) (argument_parts (s.start + s.by))
  reads_argument =
      let start = s.start + s.by in
      reads_then (λ spaces. here >>= names start) (reads_span s WhiteSpace) (λ spaces.
      reads_then (names start) (reads_here s) (λ p.
      reads_then (asks start (p + s.by)) (reads_span s Name) (λ name.
      reads_then (λ asked. give (argument name (p + s.by) asked)) reads_asked
      (λ asked. reads_give s (moved_argument s.by) (argument name p asked)))))

-- ---- an argument is local

module _ (by : ℕ) (more : List ℕ) (a : At) where
  abbrev setting : Setting
  setting = record { start = a.place; by = by; more = more }

  read_argument : (x : Argument) (q : At) → argument_at a ≡ Ok (x, q)
      → IsLocalValue setting (moved_argument by) a x q (argument_at (elsewhere setting a))
  unfolding argument_at
  read_argument = value_local (reads_argument setting) a

  refused_argument : (f : Fault) → argument_at a ≡ Err f
      → IsLocalFault setting a f (argument_at (elsewhere setting a))
  unfolding argument_at
  refused_argument = fault_local (reads_argument setting) a

-- what an argument takes is a front of the text
pub argument_takes : (a : At) (x : Argument) (q : At) → argument_at a ≡ Ok (x, q) → Takes a q
argument_takes a x q e = (read_argument 0 [] a x q e).0

-- if it is broken, the fault lies in it, and is one that an argument can have
pub argument_refuses :
    (a : At) (f : Fault) → argument_at a ≡ Err f → fault_place f ≤ a.place + size a.text
argument_refuses a f e = (refused_argument 0 [] a f e).2 (omega arith)

pub fault_from : (a : At) (f : Fault) → argument_at a ≡ Err f → a.place ≤ fault_place f
fault_from a f e = (refused_argument 0 [] a f e).1 (omega arith)

pub argument_fault : (a : At) (f : Fault) → argument_at a ≡ Err f → IsArgumentFault f
argument_fault a f e = (refused_argument 0 [] a f e).0

-- what an argument is elsewhere, as the laws state it
abbrev pub moved_read : (by : ℕ) → Result (Argument × At) Fault → Result (Argument × At) Fault
moved_read by (Ok w) = Ok (moved_argument by w.0, moved_at by w.1)
moved_read by (Err f) = Err (moved_fault by f)

-- with nothing after the text
moved_alone : (by : ℕ) (a : At) → elsewhere (setting by [] a) a ≡ moved_at by a
moved_alone by a = at_same refl (append-nil a.text)

-- an argument at another base is the same, moved
pub moves_argument : (by : ℕ) (a : At) → argument_at (moved_at by a) ≡ moved_read by (argument_at a)
moves_argument by a =
    rw (← moved_alone by a) (elim (argument_at a) as (λ o. argument_at a ≡ o
    → argument_at (elsewhere (setting by [] a) a) ≡ moved_read by o) [
      | Ok w ↦ λ e. grind (arith, read_argument by [] a w.0 w.1 e, append-nil w.1.text)
      | Err f ↦ λ e. grind (arith, refused_argument by [] a f e)
    ] refl)

-- an argument in front of a closing brace is the same whatever comes after the text
pub argument_same :
    (a : At) (more : List ℕ) (x : Argument) (q : At) → argument_at a ≡ Ok (x, q) → Guarded q.text
    → argument_at (with_more a more) ≡ Ok (x, with_more q more)
argument_same a more x q e guard = grind (arith, moves_argument 0 a, read_argument 0 more a x q e)
