use Rattle.std.proofs.Common.{◌≡◌, option_map}
use Rattle.std.specs.Str.{chars}
use Rattle.interpolator_syntax.specs.{Places.outermost, Faults.fault, Faults.result_answer}
use Rattle.interpolator_pieces.specs.NodeChecks.{first_fault, text_faults}
use Rattle.interpolator_pieces.proofs.{CheckLemmas.text_reported, CheckPlaceLemmas.first_lies}
use Rattle.interpolator.proofs.template.Template.check.Goals as goal

-- the first fault of the stored pieces is that of the text
first_is : (c : goal.After-walk)
    → result_answer c.walk.result
    ≡ option_map fault (first_fault (text_faults (outermost (chars c.args.self.now))))
first_is c =
    text_reported _ (λ old new x answer reported. reported) (outermost (chars c.args.self.now)) _ _ _
    c.walk.ensures.walks

pub returns-clause-first : goal.returns-clause-first
returns-clause-first c = first_is c

pub returns-clause-place : goal.returns-clause-place
returns-clause-place c = rw (first_is c) (first_lies c.args.self.now c.walk.ensures.utf8)
