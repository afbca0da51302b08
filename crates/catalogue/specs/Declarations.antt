-- What the head of a line declares: names, each with a kind of value. Texts are bytes.
use Rattle.std.specs.Prelude.{ℕ, Bool, ◌==◌, ◌-◌, nat_lt, List, [], ◌∷◌, ◌++◌, length, map}
use Rattle.std.specs.Prelude.{if◌then◌else◌, Option, None, Some}
use Rattle.std.specs.List.{before_first, after_first, list_any, position_or_len, slice_split}
use Rattle.std.specs.{Option.option_or, Str.bytes_eq, Str.trim, Str.trim_start}
use Rattle.interpolator.specs.Explained.{usize_sum}
use Rattle.plurals.specs.Tokens.{is_name}
use Rattle.words.specs.Declarations.{as_declaration, declaration_of}
use Rattle.words.specs.declared.Kind.{Kind}
use Rattle.catalogue.specs.declared.declarations.Heading.{Heading}
use Rattle.catalogue.specs.declared.declarations.Heading.TheVariants as headings

-- the characters `(`, `)` and `,`
abbrev pub is_open : ℕ → Bool
is_open b = b == 40

abbrev pub is_close : ℕ → Bool
is_close b = b == 41

abbrev pub is_comma : ℕ → Bool
is_comma b = b == 44

-- such a character is in the text
abbrev pub has : (ℕ → Bool) → List ℕ → Bool
has is_such text = nat_lt (position_or_len is_such text) (length text)

-- a declaration, if nothing is wrong with it
abbrev pub if_whole : Bool → List ℕ × Kind → Option (List ℕ × Kind)
if_whole whole declared = if whole then Some declared else None

-- a declaration whose name can be one: it is not empty, and has no white space
abbrev pub named : List ℕ × Kind → Option (List ℕ × Kind)
named declared = if_whole (is_name declared.0) declared

-- the declaration between two commas
abbrev pub part_of : List ℕ → Option (List ℕ × Kind)
part_of part = named (declaration_of (trim part))

-- where the part at a byte begins, after the white space in front of it
abbrev pub begin_of : ℕ → List ℕ → ℕ
begin_of place part = usize_sum place (length part - length (trim_start part))

-- where the part after it is, with a comma between
abbrev pub after_part : ℕ → List ℕ → ℕ
after_part place part = usize_sum (usize_sum place (length part)) 1

-- a name is among some declarations
abbrev pub is_among : List (List ℕ × Kind) → List ℕ → Bool
is_among seen name = list_any (λ one. bytes_eq name one.0) seen

-- where a part begins, if it is broken: it is no declaration, or its name is one of those seen
-- before
abbrev pub broken_by : ℕ → List (List ℕ × Kind) → Option (List ℕ × Kind) → Option ℕ
broken_by begin seen (Some declared) = if is_among seen declared.0 then Some begin else None
broken_by begin seen None = Some begin

-- where the part at a byte begins, if it is broken
abbrev pub broken_at : ℕ → List (List ℕ × Kind) → List ℕ → Option ℕ
broken_at place seen part = broken_by (begin_of place part) seen (part_of part)

-- a declaration, if there is one, as a list
abbrev pub as_list : Option (List ℕ × Kind) → List (List ℕ × Kind)
as_list None = []
as_list (Some declared) = declared ∷ []

-- where the first broken part begins, if one is
abbrev pub broken_from : ℕ → List (List ℕ × Kind) → List (List ℕ) → Option ℕ
broken_from place seen [] = None
broken_from place seen (part ∷ parts) = option_or (broken_at place seen part)
    (broken_from (after_part place part) (seen ++ as_list (part_of part)) parts)

-- the declarations among some parts
abbrev pub declarations : List (List ℕ) → List (List ℕ × Kind)
declarations [] = []
declarations (part ∷ parts) = as_list (part_of part) ++ declarations parts

-- what is declared: nothing; these names with their kinds, each once; or that something is broken
-- at a byte of the line
pub data Declared : Type 0 where
  nothing : Declared
  these : List (List ℕ × Kind) → Declared
  broken : ℕ → Declared

-- some declarations, if none is broken
abbrev pub unless_broken : Option ℕ → List (List ℕ × Kind) → Declared
unless_broken None declared = these declared
unless_broken (Some place) declared = broken place

-- what is declared between brackets, of which the first part is at a byte
abbrev pub declared_between : ℕ → List ℕ → Declared
declared_between place inner =
    if length (trim inner) == 0 then these []
    else unless_broken (broken_from place [] (slice_split is_comma inner))
    (declarations (slice_split is_comma inner))

-- what is declared after a `(` at a byte: it is closed by a `)` with nothing after it
abbrev pub declared_after : ℕ → List ℕ → Declared
declared_after opened rest =
    if has is_close rest
    then (if length (trim (after_first is_close rest)) == 0
    then declared_between (usize_sum opened 1) (before_first is_close rest) else broken opened)
    else broken opened

-- what the head of a line declares
abbrev pub declared_in : List ℕ → Declared
declared_in head =
    if has is_open head
    then declared_after (length (before_first is_open head)) (after_first is_open head)
    else nothing

-- the key in the head of a line, before its first `(`
abbrev pub key_in : List ℕ → List ℕ
key_in head = trim (before_first is_open head)

-- what a heading declares, borrows aside
abbrev pub declared_by : Heading → Declared
declared_by headings.Plain = nothing
declared_by (headings.Declares declared) = these (map as_declaration declared.items)
declared_by (headings.Broken place) = broken place
