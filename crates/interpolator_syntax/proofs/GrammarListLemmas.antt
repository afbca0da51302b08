-- The text after the letter of a list is its parts, one after the other, and the reverse; and what
-- its readers keep.
use Rattle.std.proofs.Common.{rules, ◌≡◌, ℕ, ◌+◌, Bool, List, ◌∷◌, arith, refl, Option, Some, None}
use Rattle.std.proofs.Common.{option_map}
use Rattle.interpolator_render.specs.declared.view.Trait.{Trait}
use Rattle.interpolator_syntax.specs.Readers.{◌>>=◌, give, flag}
use Rattle.interpolator_syntax.specs.Ranges.{second_point, first_point, points as read_points}
use Rattle.interpolator_syntax.specs.Ranges.{upper_at, range_at}
use Rattle.interpolator_syntax.specs.SpecTexts.{of_value, of_list, kind_at}
use Rattle.interpolator_syntax.specs.ListGrammar.{points, upper, range, opens_group, group}
use Rattle.interpolator_syntax.specs.ListGrammar.{group_there, list}
use Rattle.interpolator_syntax.specs.Moved.{moved_group, moved_list, moved_kind}
use Rattle.interpolator_syntax.specs.{Classes.point, Classes.equals, Groups.group_at}
use Rattle.interpolator_syntax.specs.{Groups.group_if, Lists.list_at, SpecGrammar.kind}
use Rattle.interpolator_syntax.proofs.GrammarOptionLemmas.{law_where, law_bound}
use Rattle.interpolator_syntax.proofs.GrammarPartLemmas.{ok_pair, Agrees, stripped, strip_not}
use Rattle.interpolator_syntax.proofs.LocalLemmas.{Setting, stays, elsewhere, IsSettled, Reads}
use Rattle.interpolator_syntax.proofs.LocalLemmas.{local_stay, local_strip, local_strip_at}
use Rattle.interpolator_syntax.proofs.LocalLemmas.{local_on, reads_then}
use Rattle.interpolator_syntax.proofs.SimpleReaderLemmas.{law_of, reads_give, law_flag, Law}
use Rattle.interpolator_syntax.proofs.SimpleReaderLemmas.{law_then, law_same, law_ends}
use Rattle.interpolator_syntax.proofs.{CaseLemmas.tail_same, GrammarGroupLemmas.agrees_group}
use Rattle.interpolator_syntax.proofs.{GroupReaderLemmas.reads_group, LocalityLemmas.takes_then}
use Rattle.interpolator_syntax.proofs.LongestLemmas.{at_same}
use Rattle.interpolator_render.specs.declared.view.Trait.TheVariants as traits

-- ---- points

agrees_points : Agrees read_points points
agrees_points = grind (arith, stripped, tail_same, ok_pair, at_same, strip_not)

-- ---- ranges

module _ (s : Setting) where
  -- a point that is passed is no closing brace
  point_settled : (cs ds : List ℕ) → cs ≡ point ∷ ds → IsSettled s cs → IsSettled s ds
  point_settled cs ds e h1 = grind arith

  reads_inclusive :
      Reads s stays (flag equals >>= λ inclusive. give (Some inclusive))
      (flag equals >>= λ inclusive. give (Some inclusive))
  reads_inclusive =
      let law = law_flag s equals in reads_then _ law.reads (λ inclusive. reads_give s stays _)

  -- after a point, one more character is looked at
  law_points : Law s stays read_points read_points points
  law_points =
      law_of agrees_points (λ a.
      let b = elsewhere s a in
      local_strip s stays point a.place a.text (first_point a) (first_point b)
      (local_stay s stays a None)
      (λ rest e t.
      local_strip_at s stays a point rest.place rest.text (second_point a) (second_point b)
      (point_settled a.text rest.text e) (local_stay s stays a None)
      (λ end f u. local_on reads_inclusive a end (takes_then a rest end t u))))

  law_upper :
      (inclusive : Option Bool)
      → Law s stays (upper_at s.start inclusive) (upper_at (s.start + s.by) inclusive)
      (upper s.start inclusive)
  law_upper None = law_ends s stays None
  law_upper (Some inclusive) = law_bound s

  pub law_range : Law s stays (range_at s.start) (range_at (s.start + s.by)) (range s.start)
  unfolding range_at
  law_range =
      law_then _ (law_bound s) (λ lower.
      law_then _ law_points (λ inclusive.
      law_then _ (law_upper inclusive) (λ upper. law_ends s stays _)))

  -- ---- groups and lists

  pub law_group :
      Law s (moved_group s.by) (group_at s.start) (group_at (s.start + s.by)) (group s.start)
  law_group = grind (arith, agrees_group, reads_group)

  law_group_there :
      Law s (option_map (moved_group s.by)) (group_if s.start) (group_if (s.start + s.by))
      (group_there s.start)
  law_group_there =
      let move = option_map (moved_group s.by) in
      law_same (λ a. grind arith) (λ a. grind arith)
      (law_where opens_group refl
      (law_then (λ g. give (Some g)) law_group (λ g. law_ends s move (Some g))))

  pub law_list : Law s (moved_list s.by) (list_at s.start) (list_at (s.start + s.by)) (list s.start)
  unfolding list_at
  law_list = search (rules, law_then, law_range, law_group_there, law_ends)

  -- the kind under a trait
  pub law_kind :
      (t : Trait)
      → Law s (moved_kind s.by) (kind_at s.start t) (kind_at (s.start + s.by) t) (kind s.start t)
  law_kind traits.Iter = law_then _ law_list (λ l. law_ends s (moved_kind s.by) (of_list l))
  law_kind t = law_ends s (moved_kind s.by) (of_value t)
