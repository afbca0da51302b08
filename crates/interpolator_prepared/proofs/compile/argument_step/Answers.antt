use Rattle.std.proofs.Common.{◌∙◌, sym}
use Rattle.interpolator_pieces.specs.declared.piece.Form.TheVariants as forms
use Rattle.interpolator_prepared.proofs.CompileLemmas.{step_of_name, step_of_value, step_other}
use Rattle.interpolator_prepared.proofs.CompileLemmas.{if_same}
use Rattle.interpolator_prepared.proofs.KeptLemmas.{kept_is}
use Rattle.interpolator_prepared.proofs.compile.argument_step.Goals as goal

pub returns-in-Plain : goal.returns-in-Plain
returns-in-Plain g c =
    rw c.spec_end_of.ensures (record {
      step = step_of_name (g.N.Names.known c.args.names) c.args.text.now c.args.piece.now
          c.requires.whole c.in-Some.position c.in-Some.ensures (sym c.form_of.ensures ∙ c.in-Plain.is);
    })

pub returns-in-Value : goal.returns-in-Value
returns-in-Value g c =
    record {
      step = if_same _ c.args.text.now _ _
          (step_of_value (g.N.Names.known c.args.names) c.args.text.now c.args.piece.now
          c.requires.whole c.in-Some.position c.in-Some.ensures c.in-Value.t (sym c.form_of.ensures ∙ c.in-Value.is))
          c.under.ensures.step;
    }

pub returns-in-Text : goal.returns-in-Text
returns-in-Text g c =
    record {
      step = if_same _ c.args.text.now _ _
          (kept_is _ c.requires.whole
          ∙ step_other (g.N.Names.known c.args.names) c.args.text.now c.args.piece.now forms.Text
          (sym c.form_of.ensures ∙ c.in-Text.is) tt c.in-Some.position c.in-Some.ensures)
          c.kept.ensures.step;
    }

pub returns-in-List : goal.returns-in-List
returns-in-List g c =
    record {
      step = if_same _ c.args.text.now _ _
          (kept_is _ c.requires.whole
          ∙ step_other (g.N.Names.known c.args.names) c.args.text.now c.args.piece.now _
          (sym c.form_of.ensures ∙ c.in-List.is) tt c.in-Some.position c.in-Some.ensures)
          c.kept-in-List.ensures.step;
    }

pub returns-in-Broken : goal.returns-in-Broken
returns-in-Broken g c =
    record {
      step = if_same _ c.args.text.now _ _
          (kept_is _ c.requires.whole
          ∙ step_other (g.N.Names.known c.args.names) c.args.text.now c.args.piece.now _
          (sym c.form_of.ensures ∙ c.in-Broken.is) tt c.in-Some.position c.in-Some.ensures)
          c.kept-in-Broken.ensures.step;
    }

pub returns-in-None : goal.returns-in-None
returns-in-None g c = rw (← c.in-None.ensures) (record { step = c.whole_step.ensures.step })
