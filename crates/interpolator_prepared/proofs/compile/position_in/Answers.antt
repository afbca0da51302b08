use Rattle.std.proofs.Common.{◌≡◌, ◌∙◌, sym, ap, nat_lt, Some}
use Rattle.std.proofs.lemmas.Str.{encodes-chars}
use Rattle.std.specs.Str.{chars, encode_utf8_all}
use Rattle.interpolator_prepared.specs.Rows.{last_position}
use Rattle.interpolator_pieces.specs.{Stored.detail_of, StoredMeanings.stored_part}
use Rattle.interpolator_pieces.specs.declared.piece.Piece.TheViews.{out-Piece}
use Rattle.interpolator_prepared.proofs.CompileLemmas.{named_part}
use Rattle.interpolator_prepared.proofs.compile.position_in.Goals as goal

pub returns : goal.returns
returns g c = record {
  position = λ name is.
      let bytes = c.text_of.result.now in
      let x = c.args.piece.now in
      let whole : stored_part c.args.text.now x ≡ Some name =
      named_part (nat_lt (out-Piece x).place (detail_of x).from) (stored_part c.args.text.now x) name is in
      let reported : Some (chars bytes) ≡ Some name = c.text_of.ensures.text ∙ whole in
      let same : chars bytes ≡ name = cc in
      c.find.ensures
      ∙ ap (last_position (g.N.Names.known c.args.names))
      (sym (encodes-chars bytes c.text_of.utf8) ∙ ap encode_utf8_all same);
}
