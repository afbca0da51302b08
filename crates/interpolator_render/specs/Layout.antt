-- The parts of a text, and the characters that they stand for.
use Rattle.std.specs.{Prelude.ℕ, Prelude.List, Prelude.replicate, List.flat_map, Str.chars}
use Rattle.interpolator_render.specs.declared.layout.Part.{Part}
use Rattle.interpolator_render.specs.declared.layout.Part.TheVariants.{Text, Copies}

-- the characters of a part
abbrev pub part_text : Part → List ℕ
part_text (Text text) = chars text.now
part_text (Copies c count) = replicate count c

-- the characters of the parts, one after the other
abbrev pub text_of_parts : List Part → List ℕ
text_of_parts parts = flat_map part_text parts
