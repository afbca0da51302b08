use Rattle.std.proofs.Common.{◌∙◌, sym}
use Rattle.interpolator_pieces.specs.declared.piece.Form.TheVariants as forms
use Rattle.interpolator_prepared.proofs.CompileLemmas.{position_of_name, position_of_value}
use Rattle.interpolator_prepared.proofs.CompileLemmas.{no_position_kind, no_position_form}
use Rattle.interpolator_pieces.proofs.RunLemmas.{name_fits, value_fits}
use Rattle.interpolator_pieces.proofs.WholePieceLemmas.{fits_text}
use Rattle.interpolator_prepared.proofs.compile.position_of.Goals as goal

pub position_in-requires : goal.position_in-requires
position_in-requires g c =
    record {
      fits = name_fits c.args.text.now c.args.piece.now (sym c.form_of.ensures ∙ c.in-Plain.is)
          (fits_text c.args.text.now c.args.piece.now c.requires.whole).held;
    }

pub position_in-requires-in-Value : goal.position_in-requires-in-Value
position_in-requires-in-Value g c =
    record {
      fits = value_fits c.args.text.now c.args.piece.now _ (sym c.form_of.ensures ∙ c.in-Value.is)
          (fits_text c.args.text.now c.args.piece.now c.requires.whole).held;
    }

pub returns-in-Plain : goal.returns-in-Plain
returns-in-Plain g c =
    position_of_name (g.N.Names.known c.args.names) c.args.text.now c.args.piece.now
    c.requires.whole c.in-Closed.is _ c.position_in.ensures.position (sym c.form_of.ensures ∙ c.in-Plain.is)

pub returns-in-Value : goal.returns-in-Value
returns-in-Value g c =
    position_of_value (g.N.Names.known c.args.names) c.args.text.now c.args.piece.now
    c.requires.whole c.in-Closed.is _ c.position_in-in-Value.ensures.position _ (sym c.form_of.ensures ∙ c.in-Value.is)

pub returns-in-Text : goal.returns-in-Text
returns-in-Text g c =
    no_position_form (g.N.Names.known c.args.names) c.args.text.now c.args.piece.now forms.Text
    (sym c.form_of.ensures ∙ c.in-Text.is) tt c.in-Closed.is

pub returns-in-List : goal.returns-in-List
returns-in-List g c =
    no_position_form (g.N.Names.known c.args.names) c.args.text.now c.args.piece.now _
    (sym c.form_of.ensures ∙ c.in-List.is) tt c.in-Closed.is

pub returns-in-Broken-form_of : goal.returns-in-Broken-form_of
returns-in-Broken-form_of g c =
    no_position_form (g.N.Names.known c.args.names) c.args.text.now c.args.piece.now _
    (sym c.form_of.ensures ∙ c.in-Broken-form_of.is) tt c.in-Closed.is

pub returns-in-Literal : goal.returns-in-Literal
returns-in-Literal g c =
    no_position_kind (g.N.Names.known c.args.names) c.args.text.now _ _ c.in-Literal.is (λ e. cc)

pub returns-in-Doubled : goal.returns-in-Doubled
returns-in-Doubled g c =
    no_position_kind (g.N.Names.known c.args.names) c.args.text.now _ _ c.in-Doubled.is (λ e. cc)

pub returns-in-LoneClose : goal.returns-in-LoneClose
returns-in-LoneClose g c =
    no_position_kind (g.N.Names.known c.args.names) c.args.text.now _ _ c.in-LoneClose.is (λ e. cc)

pub returns-in-Unclosed : goal.returns-in-Unclosed
returns-in-Unclosed g c =
    no_position_kind (g.N.Names.known c.args.names) c.args.text.now _ _ c.in-Unclosed.is (λ e. cc)

pub returns-in-Broken : goal.returns-in-Broken
returns-in-Broken g c =
    no_position_kind (g.N.Names.known c.args.names) c.args.text.now _ _ c.in-Broken.is (λ e. cc)
