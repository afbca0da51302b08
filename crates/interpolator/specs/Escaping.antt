-- Texts whose braces are doubled, and meanings that are text and nothing else.
use Rattle.std.specs.Prelude.{◌≡◌, ℕ, if◌then◌else◌, List, [], ◌∷◌, map, Option, Some, None}
use Rattle.interpolator_syntax.specs.Pieces.{PieceKind, Piece, literal, doubled}
use Rattle.interpolator_syntax.specs.{Places.text_of, Classes.is_brace}
use Rattle.interpolator_eval.specs.Meaning.Meanings.{Meaning}

-- every brace twice, and every other character once
abbrev pub braces_doubled : List ℕ → List ℕ
braces_doubled [] = []
braces_doubled (c ∷ cs) =
    if is_brace c then c ∷ c ∷ braces_doubled cs else (c ∷ braces_doubled cs)

-- the character that a literal or a doubled brace is written as; no other piece has one
abbrev pub plain_character : PieceKind → Option ℕ
plain_character (literal c) = Some c
plain_character (doubled brace) = Some brace
plain_character _ = None

-- pieces that are literals or doubled braces, and are written as these characters
abbrev pub ArePlain : List Piece → List ℕ → Type 0
ArePlain xs text = map (λ x. plain_character x.kind) xs ≡ map Some text

-- a meaning of these characters, without a fault, that takes no memory
pub record SaysAlone (text : List ℕ) (m : Meaning) : Type 0 where
  pub says : text_of m.text ≡ text
  pub no_fault : m.fault ≡ None
  pub no_memory : m.memory_points ≡ []
