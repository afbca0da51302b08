-- What a text means at another base: the same, with every place moved by `by` bytes.
use Rattle.std.specs.Prelude.{ℕ, ◌+◌, option_map}
use Rattle.interpolator_syntax.specs.SpecTexts.{Kind, of_value, of_list}
use Rattle.interpolator_syntax.specs.Pieces.{PieceKind, Piece, literal, doubled, lone_close, closed}
use Rattle.interpolator_syntax.specs.Pieces.{unclosed, broken}
use Rattle.interpolator_syntax.specs.Faults.{ParseFault, unclosed as unclosed_fault, expected}
use Rattle.interpolator_syntax.specs.Faults.{invalid_width, invalid_precision, fill, iter}
use Rattle.interpolator_syntax.specs.Faults.{range_bound, Fault, missing_trait_impl, fmt, parse}
use Rattle.interpolator_syntax.specs.Faults.{missing_value, unsupported_option}
use Rattle.interpolator_syntax.specs.{Places.At, Groups.Group, Lists.ListRequest}
use Rattle.interpolator_syntax.specs.{Arguments.Argument}

module _ (by : ℕ) where
  -- the text at a place that is `by` bytes further on
  abbrev pub moved_at : At → At
  moved_at a = record { place = a.place + by; text = a.text }

  -- a fault of the format text
  abbrev pub moved_parse_fault : ParseFault → ParseFault
  moved_parse_fault (unclosed_fault place) = unclosed_fault (place + by)
  moved_parse_fault (expected text place) = expected text (place + by)
  moved_parse_fault (invalid_width kind place) = invalid_width kind (place + by)
  moved_parse_fault (invalid_precision kind place) = invalid_precision kind (place + by)
  moved_parse_fault (fill place) = fill (place + by)
  moved_parse_fault (iter place) = iter (place + by)
  moved_parse_fault (range_bound kind place) = range_bound kind (place + by)

  -- a fault that a format can have
  abbrev pub moved_fault : Fault → Fault
  moved_fault (missing_trait_impl wanted place) = missing_trait_impl wanted (place + by)
  moved_fault (fmt place) = fmt (place + by)
  moved_fault (parse f) = parse (moved_parse_fault f)
  moved_fault (missing_value name place) = missing_value name (place + by)
  moved_fault (unsupported_option option feature place) =
      unsupported_option option feature (place + by)

  -- a group: its text is further on
  abbrev pub moved_group : Group → Group
  moved_group g = record { text = g.text; place = g.place + by }

  -- the form of a list: its groups
  abbrev pub moved_list : ListRequest → ListRequest
  moved_list l = record {
    range = l.range;
    item = option_map moved_group l.item;
    join = option_map moved_group l.join;
  }

  -- the kind of an argument
  abbrev pub moved_kind : Kind → Kind
  moved_kind (of_value t) = of_value t
  moved_kind (of_list l) = of_list (moved_list l)

  -- an argument: its name, and its groups
  abbrev pub moved_argument : Argument → Argument
  moved_argument x = record {
    name = x.name;
    name_place = x.name_place + by;
    spec = x.spec;
    kind = moved_kind x.kind;
  }

  -- what a piece is
  abbrev pub moved_piece_kind : PieceKind → PieceKind
  moved_piece_kind (literal c) = literal c
  moved_piece_kind (doubled brace) = doubled brace
  moved_piece_kind lone_close = lone_close
  moved_piece_kind (closed start x end) = closed (start + by) (moved_argument x) (end + by)
  moved_piece_kind (unclosed start x end) = unclosed (start + by) (moved_argument x) (end + by)
  moved_piece_kind (broken f) = broken (moved_fault f)

  -- a piece
  abbrev pub moved_piece : Piece → Piece
  moved_piece x = record { place = x.place + by; text = x.text; kind = moved_piece_kind x.kind }
