-- Arguments as the code has them, with each text by its bytes, wherever these lie in memory.
use Rattle.std.specs.Prelude.{option_map}
use Rattle.interpolator_syntax.specs.SpecTexts.{Kind, of_value, of_list}
use Rattle.interpolator_syntax.specs.{Arguments.Argument, Groups.Group}
use Rattle.interpolator_syntax.specs.declared.argument.Argument as code_argument
use Rattle.interpolator_syntax.specs.declared.argument.Kind as code_kind
use Rattle.interpolator_syntax.specs.declared.argument.Kind.TheVariants.{Value, List}
use Rattle.interpolator_syntax.specs.declared.group.Group as code_group

-- a group
abbrev pub group_in_bytes : code_group.Group → Group
group_in_bytes g = record { text = g.text.now; place = g.place }

-- how the value of an argument is written
abbrev pub kind_in_bytes : code_kind.Kind → Kind
kind_in_bytes (Value t) = of_value t
kind_in_bytes (List range item join) = of_list (record {
  range = range;
  item = option_map group_in_bytes item;
  join = option_map group_in_bytes join;
})

-- an argument
abbrev pub argument_in_bytes : code_argument.Argument → Argument
argument_in_bytes x = record {
  name = x.name.now;
  name_place = x.name_place;
  spec = x.spec;
  kind = kind_in_bytes x.kind;
}
