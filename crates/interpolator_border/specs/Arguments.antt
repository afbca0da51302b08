-- The arguments of a format, as they are told.
use Rattle.std.specs.Prelude.{◌≡◌, ◌⊎◌, ℕ, ◌+◌, List, map, length, true, false, Option, None, Some}
use Rattle.std.specs.Str.{chars, is_utf8}
use Rattle.interpolator_render.specs.declared.{view.Trait.Trait, view.Trait.TheVariants.Iter}
use Rattle.interpolator_render.specs.{Lengths.usize_count, Writers.byte_count}
use Rattle.interpolator_syntax.specs.SpecTexts.{Kind, of_value, of_list}
use Rattle.interpolator_syntax.specs.{Arguments.Argument, Places.outermost, Groups.Group}
use Rattle.interpolator.specs.Template.AllArguments.{arguments_of}
use Rattle.interpolator_border.specs.Answers.{FillsFront, bare_answer, text_answer}
use Rattle.interpolator_border.specs.Requests.{request_of}
use Rattle.interpolator_border.specs.declared.answer.Answer.{Answer as Reported_answer}
use Rattle.interpolator_border.specs.declared.argument.Argument.{Argument as Reported_argument}

-- where a group begins, and where it ends; 0 without a group
abbrev pub group_first : Option Group → ℕ
group_first None = 0
group_first (Some g) = g.place

abbrev pub group_end : Option Group → ℕ
group_end None = 0
group_end (Some g) = g.place + byte_count g.text

-- the trait of what is asked for
abbrev pub kind_slot : Kind → Trait
kind_slot (of_value t) = t
kind_slot (of_list l) = Iter

-- the item format, and the join
abbrev pub kind_item : Kind → Option Group
kind_item (of_value t) = None
kind_item (of_list l) = l.item

abbrev pub kind_join : Kind → Option Group
kind_join (of_value t) = None
kind_join (of_list l) = l.join

-- an argument, in numbers
abbrev pub reported_argument : Argument → Reported_argument
reported_argument x = record {
  name_first = x.name_place;
  name_end = usize_count (x.name_place + byte_count x.name);
  request = request_of (kind_slot x.kind) x.spec;
  item_first = group_first (kind_item x.kind);
  item_end = group_end (kind_item x.kind);
  join_first = group_first (kind_join x.kind);
  join_end = group_end (kind_join x.kind);
}

-- those of a format
abbrev pub reported_arguments : List ℕ → List Reported_argument
reported_arguments format = map reported_argument (arguments_of (outermost (chars format)))

-- the arguments, and how many they are; or memory was wanted, or the format is not UTF-8
abbrev pub ArgumentAnswers : List ℕ → (old new : List Reported_argument) → Reported_answer → Type 0
ArgumentAnswers format old new answer =
    ((is_utf8 format ≡ true) × (answer ≡ text_answer (length (reported_arguments format)))
    × FillsFront (reported_arguments format) old new)
    ⊎ (((answer ≡ bare_answer 6) ⊎ ((answer ≡ bare_answer 7) × (is_utf8 format ≡ false)))
    × (new ≡ old))
