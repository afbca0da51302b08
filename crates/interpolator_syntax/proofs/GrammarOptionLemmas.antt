-- Parts that may be absent, and numbers: the laws of their readers.
use Rattle.interpolator_syntax.proofs.LocalLemmas.{nothing_more, Setting, stays, elsewhere, IsLocal}
use Rattle.interpolator_syntax.proofs.LocalLemmas.{IsSettled, local_stay, local_strip, local_on}
use Rattle.interpolator_syntax.proofs.CaseLemmas.{head_same}
use Rattle.interpolator_syntax.proofs.GrammarNumberLemmas.{Tells, Decides, naturals_decide}
use Rattle.interpolator_syntax.proofs.GrammarNumberLemmas.{integers_decide}
use Rattle.interpolator_syntax.proofs.GrammarPartLemmas.{ok_pair, Says, Agrees, agrees_then}
use Rattle.interpolator_syntax.proofs.GrammarPartLemmas.{agrees_same, agrees_placed, agrees_run}
use Rattle.interpolator_syntax.proofs.GrammarPartLemmas.{stripped, strip_lies, strip_not}
use Rattle.interpolator_syntax.proofs.LocalityLemmas.{Takes, takes_none}
use Rattle.interpolator_syntax.proofs.SimpleReaderLemmas.{law_of, reads_run, Law, law_same}
use Rattle.std.proofs.Common.{◌≡◌, ℕ, ◌+◌, Bool, cond, List, arith, refl, Result, Ok, Err, Option}
use Rattle.std.proofs.Common.{Some, None}
use Rattle.std.proofs.lemmas.Bool.{cond_both}
use Rattle.std.specs.Char.{is_ascii_digit}
use Rattle.interpolator_syntax.specs.Places.{At, first, strip}
use Rattle.interpolator_syntax.specs.Readers.{Reader, ◌>>=◌ as ◌>>>◌, run as read_run}
use Rattle.interpolator_syntax.specs.SpecTexts.{number_or, number_at, width_at, if_point}
use Rattle.interpolator_syntax.specs.SpecTexts.{precision_at}
use Rattle.interpolator_syntax.specs.NumberGrammar.{Spelling, naturals, integers}
use Rattle.interpolator_syntax.specs.GrammarParts.{Part, where_first, where_after, spelling_of}
use Rattle.interpolator_syntax.specs.GrammarParts.{number}
use Rattle.interpolator_syntax.specs.Faults.{Fault, ParseFault, parse, parse_place, range_bound}
use Rattle.interpolator_syntax.specs.Faults.{invalid_width, invalid_precision}
use Rattle.interpolator_syntax.specs.{Numbers.natural, Numbers.integer, Classes.in_class}
use Rattle.interpolator_syntax.specs.{Classes.point, Ranges.bound_or, Ranges.bound_if}
use Rattle.interpolator_syntax.specs.{SpecGrammar.width, SpecGrammar.precision, ListGrammar.bound}
use Rattle.interpolator_syntax.specs.Moved.{moved_parse_fault}
use Rattle.interpolator_syntax.specs.declared.error.NumberError.{NumberError}
use Rattle.interpolator_syntax.specs.declared.class.Class.TheVariants.{Number}

-- ---- a part that is there if a character that passes comes first

module _ {A : Type 0} (passes : ℕ → Bool) (read : Reader (Option A)) where
  -- read if the first character passes
  abbrev pub if_passes : At → Option (ℕ × At) → Result (Option A × At) Fault
  if_passes a None = Ok (None, a)
  if_passes a (Some w) = cond (passes w.0) (read a) (Ok (None, a))

module _
    {A : Type 0} (passes : ℕ → Bool) (read : Reader (Option A)) (part : Part (Option A))
    (h : Agrees read part) where
  agrees_where_first : Agrees (λ a. if_passes passes read a (first a)) (where_first passes part)
  agrees_where_first = grind (arith, cond_both, head_same, ok_pair)

pub law_where :
    {s : Setting} {A : Type 0} {move : Option A → Option A} (passes : ℕ → Bool)
    {read other : Reader (Option A)} {part : Part (Option A)} → move None ≡ None
    → Law s move read other part
    → Law s move (λ a. if_passes passes read a (first a)) (λ a. if_passes passes other a (first a))
    (where_first passes part)
law_where {s} passes {part = part} none law =
    let agrees = agrees_where_first passes _ part law.agrees in
    grind (arith, agrees, law.reads.is_local, takes_none, nothing_more s)

-- ---- after a point

module _ (read : Reader (Option ℕ)) (part : Part (Option ℕ)) (h : Agrees read part) where
  agrees_if_point : Agrees (λ a. if_point read a (strip point a)) (where_after point part)
  agrees_if_point = grind (arith, stripped, strip_lies, strip_not, ok_pair)

-- ---- numbers

-- the number that a text at p spells, or the fault that it spells none
abbrev reported_or : {A : Type 0} → (NumberError → ℕ → ParseFault) → (p : ℕ) → Result A NumberError
    → Reader (Option A)
reported_or wrong p (Ok n) = λ a. Ok (Some n, a)
reported_or wrong p (Err kind) = λ a. Err (parse (wrong kind p))

module _
    {A : Type 0} (wrong : NumberError → ℕ → ParseFault) (read : List ℕ → Result A NumberError)
    (spelling : Spelling A) (h : Decides read spelling) where
  spelled_says :
      (p : ℕ) (cs : List ℕ) (a : At) (o : Result A NumberError) → Tells spelling cs o
      → Says (spelling_of spelling wrong p cs) a (reported_or wrong p o a)
  spelled_says p cs a o e = grind arith

  agrees_spelled :
      (p : ℕ) (cs : List ℕ) → Agrees (reported_or wrong p (read cs)) (spelling_of spelling wrong p cs)
  agrees_spelled p cs = record {
    says = λ a. spelled_says p cs a (read cs) (h.says cs);
    only = λ a q x t. rw (h.only cs (Ok t.0) t.1, t.2, t.3) refl;
    only_not = λ a f t. rw (h.only cs (Err t.0) t.1, t.2) refl;
  }

  -- the place of a number's fault is the one that it is made with
  module _
      (s : Setting) (place : (kind : NumberError) (p : ℕ) → parse_place (wrong kind p) ≡ p)
      (moves : (by : ℕ) (kind : NumberError) (p : ℕ)
      → wrong kind (p + by) ≡ moved_parse_fault by (wrong kind p))
    where
      -- the number of what was read at a up to b, where l is the result elsewhere
      local_reported :
          (a b : At) (l : Result (Option A × At) Fault) (o : Result A NumberError) → Takes a b
          → (IsSettled s b.text → l ≡ reported_or wrong (a.place + s.by) o (elsewhere s b))
          → IsLocal s stays a (reported_or wrong a.place o b) l
      local_reported a b l o t e = grind (arith, place, moves)

      module _
          (tell : ℕ → Result A NumberError → Reader (Option A))
          (same : (p : ℕ) (o : Result A NumberError) (a : At) → tell p o a ≡ reported_or wrong p o a)
        where
          abbrev number_from : (start : ℕ) → Reader (Option A)
          number_from start =
              λ a. (read_run (in_class Number) start >>> λ cs. tell a.place (read cs)) a

          -- a run of digits and `-`, and what it spells, with its place
          law_number :
              Law s stays (number_from s.start) (number_from (s.start + s.by))
              (number spelling wrong s.start)
          law_number = record {
            agrees =
                agrees_placed (λ p.
                agrees_then (agrees_run Number s.start) (λ cs.
                agrees_same (same p (read cs)) (agrees_spelled p cs)));
            reads =
                let digits = reads_run s (in_class Number) in
                grind (arith, digits, same, local_reported);
          }

-- ---- widths, precisions and bounds

module _ (s : Setting) where
  pub law_width : Law s stays (width_at s.start) (width_at (s.start + s.by)) (width s.start)
  law_width =
      law_same (λ a. grind arith) (λ a. grind arith)
      (law_where is_ascii_digit refl
      (law_number invalid_width natural naturals naturals_decide s (λ kind p. refl)
      (λ by kind p. refl) (number_or invalid_width) (λ p o a. grind arith)))

  pub law_bound : Law s stays (bound_if s.start) (bound_if (s.start + s.by)) (bound s.start)
  law_bound =
      law_same (λ a. grind arith) (λ a. grind arith)
      (law_where (in_class Number) refl
      (law_number range_bound integer integers integers_decide s (λ kind p. refl)
      (λ by kind p. refl) bound_or (λ p o a. grind arith)))

  pub law_precision :
      Law s stays (precision_at s.start) (precision_at (s.start + s.by)) (precision s.start)
  law_precision =
      let number =
      law_number invalid_precision natural naturals naturals_decide s (λ kind p. refl)
      (λ by kind p. refl) (number_or invalid_precision) (λ p o a. grind arith) in
      law_of (agrees_if_point _ _ number.agrees) (λ a.
      local_strip s stays point a.place a.text (if_point (number_at invalid_precision s.start) a)
      (if_point (number_at invalid_precision (s.start + s.by)) (elsewhere s a))
      (local_stay s stays a None) (λ rest e t. local_on number.reads a rest t))
