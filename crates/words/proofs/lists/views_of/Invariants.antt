use Rattle.std.proofs.Common.{◌≡◌, map, take}
use Rattle.interpolator.specs.Views.{shown_as_value}
use Rattle.words.specs.{Items.texts_of, Lists.texts_show}
use Rattle.words.proofs.lists.views_of.Given as goal

abbrev pub invariant-loop-text : goal.invariant-loop-text
invariant-loop-text l =
    map shown_as_value l.views.items ≡ texts_show (texts_of (take l.text-index l.texts))
