use Rattle.interpolator.proofs.ExcerptLemmas.{first_marked, line_under_marks, mark_at}
use Rattle.interpolator.proofs.ExcerptLemmas.{marks_from_there, shown_in_characters}
use Rattle.interpolator_laws.proofs.excerpts.the_mark_stands_under_its_character.Goals as goal

pub returns : goal.returns
returns c = record {
  text = shown_in_characters;
  above = line_under_marks;
  marks = marks_from_there;
  there = first_marked;
  index = mark_at;
}
