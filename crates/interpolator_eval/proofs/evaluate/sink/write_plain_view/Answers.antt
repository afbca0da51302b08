use Rattle.interpolator_eval.proofs.evaluate.sink.write_plain_view.Goals as goal

pub returns-in-Text : goal.returns-in-Text
returns-in-Text g c = rw (c.in-Text.is) (record { outcome = c.write_text_at.ensures.outcome })
