-- What a level of a log shows: a user's own enum whose debug text is not its display text.
use Rattle.std.specs.{Prelude.ℕ, Prelude.List, Prelude.codes, Str.chars}
use Rattle.interpolator_render.specs.Views.{Shown, some_text, plain_text, nothing_implemented}
use Rattle.interpolator_render.specs.declared.view.Trait.{Trait}
use Rattle.interpolator_render.specs.declared.view.Trait.TheVariants.{Debug, Display}
use Rattle.interpolator_examples.specs.declared.levels.Level.{Level}
use Rattle.interpolator_examples.specs.declared.levels.Level.TheVariants as level

-- one word for display and another, without quotes, for debug; nothing for any other trait
abbrev pub word_shows : List ℕ → List ℕ → Trait → Shown
word_shows shown reported Display = some_text (chars shown)
word_shows shown reported Debug = plain_text (chars reported)
word_shows shown reported _ = nothing_implemented

-- its name
abbrev pub level_shows : Level → Trait → Shown
level_shows level.Info t = word_shows (codes "info") (codes "Info") t
level_shows level.Warn t = word_shows (codes "warn") (codes "Warn") t
