-- The argument after an opening brace: how it is read, and how the code represents it.
use Rattle.std.specs.Prelude.{◌≡◌, ℕ, List, drop, Option, None, Some, option_map, Result, Ok, Err}
use Rattle.std.specs.Str.{chars}
use Rattle.interpolator_render.specs.{declared.view.Spec.Spec, declared.view.Trait.Trait}
use Rattle.interpolator_render.specs.declared.view.Trait.TheVariants as traits
use Rattle.interpolator_syntax.specs.Places.{At, at, strip}
use Rattle.interpolator_syntax.specs.Classes.{close_brace, colon}
use Rattle.interpolator_syntax.specs.Readers.{Reader, ◌>>=◌, give, here, span}
use Rattle.interpolator_syntax.specs.SpecTexts.{Kind, of_value, of_list, Request, plain_display}
use Rattle.interpolator_syntax.specs.SpecTexts.{plain_spec, spec_after}
use Rattle.interpolator_syntax.specs.Faults.{Fault, Answer, fault, parse, unclosed}
use Rattle.interpolator_syntax.specs.Faults.{argument_fault_of, answer_of}
use Rattle.interpolator_syntax.specs.declared.class.Class.TheVariants.{WhiteSpace, Name}
use Rattle.interpolator_syntax.specs.{Groups.group_of, Lists.ListRequest}
use Rattle.interpolator_syntax.specs.declared.error.Error.{Error}
use Rattle.interpolator_syntax.specs.declared.argument_fault.ArgumentFault.{ArgumentFault}
use Rattle.interpolator_syntax.specs.declared.argument.Kind as code_kind
use Rattle.interpolator_syntax.specs.declared.argument.Kind.TheVariants.{Value, List as ListKind}
use Rattle.interpolator_syntax.specs.declared.argument.Argument as code_argument
use Rattle.interpolator_syntax.specs.declared.argument.ArgumentName.{ArgumentName}
use Rattle.interpolator_syntax.specs.declared.argument.Request as code_request
use Rattle.interpolator_syntax.specs.declared.argument.TakenArgument.{TakenArgument}
use Rattle.interpolator_syntax.specs.declared.list.ListForm.{ListForm}

-- an argument
pub record Argument : Type 0 where
  pub name : List ℕ
  pub name_place : ℕ
  pub spec : Spec
  pub kind : Kind

-- an argument by its name, the place of that, and its request
abbrev pub argument : List ℕ → ℕ → Request → Argument
argument name place asked =
    record { name = name; name_place = place; spec = asked.spec; kind = asked.kind }

-- after a name: a closing brace, or a colon and the spec after it; with neither, a fault
abbrev pub asked_by : (start : ℕ) → (a : At) → Option At → Option At → Result (Request × At) Fault
asked_by start a (Some closed) spec = Ok (plain_display, a)
asked_by start a None (Some rest) = spec_after start rest
asked_by start a None None = Err (parse (unclosed start))

-- the request after the name of the argument that begins at `start`
abbrev pub asked_at : (start : ℕ) → Reader Request
asked_at start = λ a. asked_by start a (strip close_brace a) (strip colon a)

-- white space; the name, up to the first `:` or `}`; and its request
abbrev pub argument_parts : (start : ℕ) → Reader Argument
argument_parts start =
    do
      spaces ← span WhiteSpace
      place ← here
      name ← span Name
      asked ← asked_at start
      give (argument name place asked)

-- the argument of a name that was read, with the request after it
abbrev pub argument_after : (start : ℕ) → Argument → Reader Argument
argument_after start x =
    do
      asked ← asked_at start
      give (argument x.name x.name_place asked)

-- the argument that begins here, after its brace, and the text after its spec; or why it is broken
unfoldable pub argument_at : Reader Argument
argument_at = λ a. argument_parts a.place a

-- the kind that the code's kind stands for
abbrev pub kind_of : code_kind.Kind → Kind
kind_of (Value t) = of_value t
kind_of (ListKind range item join) = of_list (record {
  range = range;
  item = option_map group_of item;
  join = option_map group_of join;
})

-- the form of a list that the code's form stands for
abbrev pub list_of : ListForm → ListRequest
list_of form = record {
  range = form.range;
  item = option_map group_of form.item;
  join = option_map group_of form.join;
}

-- the kind of a trait: for `Iter` a list of that form, and for each other a value
abbrev pub kind_under : Trait → ListRequest → Kind
kind_under traits.Iter form = of_list form
kind_under t form = of_value t

-- the kind that the code's request stands for
abbrev pub kind_of_request : code_request.Request → Kind
kind_of_request x = kind_under x.slot (list_of x.list)

-- the request that the code's request stands for
abbrev pub request_of : code_request.Request → Request
request_of x = record { spec = x.spec; kind = kind_of_request x }

-- the code's request stands for plain display
abbrev pub IsPlain : code_request.Request → Type 0
IsPlain x = (x.slot ≡ traits.Display) × (x.spec ≡ plain_spec)

-- the argument that the code's argument stands for, wherever in memory its texts lie
abbrev pub argument_of : code_argument.Argument → Argument
argument_of x = argument (chars x.name.now) x.name_place
    (record { spec = x.spec; kind = kind_of x.kind })

-- the argument of a name that the code read, with that request
abbrev pub named_argument : ArgumentName → Request → Argument
named_argument n asked = argument (chars n.name.now) n.place asked

-- plain display of a name that the code read
abbrev pub plain_argument : ArgumentName → Argument
plain_argument n = named_argument n plain_display

-- an argument that the code read, and the text after its spec; or why it is broken
abbrev pub taken_read : Result TakenArgument ArgumentFault → Result (Argument × At) Fault
taken_read (Ok t) = Ok (named_argument t.name (request_of t.asked), at t.end)
taken_read (Err broken) = Err (argument_fault_of broken)

-- an argument, and the byte after its spec
abbrev pub with_end : Result (Argument × At) Fault → Result (Argument × ℕ) Fault
with_end (Ok w) = Ok (w.0, w.1.place)
with_end (Err f) = Err f

-- what a caller gets for an argument; memory never runs out
abbrev pub argument_reported : Result (code_argument.Argument × ℕ) Error
    → Result (Argument × ℕ) Answer
argument_reported (Ok w) = Ok (argument_of w.0, w.1)
argument_reported (Err error) = Err (answer_of error)

-- a fault as an answer
abbrev pub answering : Result (Argument × ℕ) Fault → Result (Argument × ℕ) Answer
answering (Ok w) = Ok w
answering (Err f) = Err (fault f)

-- the characters of a text from a byte on
abbrev pub from_byte : (text : List ℕ) → (start : ℕ) → At
from_byte text start = record { place = start; text = chars (drop start text) }

-- the request that the code read into x, up to `end`; or why it is broken
abbrev pub asked_read : Result (Unit {0}) ArgumentFault → (x : code_request.Request) → (end : At)
    → Result (Request × At) Fault
asked_read (Ok _) x end = Ok (request_of x, end)
asked_read (Err broken) x end = Err (argument_fault_of broken)

-- the form of a list, read into x up to `end`; or why it is broken
abbrev pub list_read : Result (Unit {0}) ArgumentFault → (x : ListForm) → (end : At)
    → Result (ListRequest × At) Fault
list_read (Ok _) x end = Ok (list_of x, end)
list_read (Err broken) x end = Err (argument_fault_of broken)
