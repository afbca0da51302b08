use Rattle.std.proofs.Common.{◌∙◌, refl, sym}
use Rattle.merge.specs.Columns.{kinds_in, names_in}
use Rattle.merge.proofs.TableLemmas.{settled}
use Rattle.records.specs.Tables.{at, separator_of}
use Rattle.merge.proofs.letters.merge_letters.Goals as goal

pub returns-then-is_clean : goal.returns-then-is_clean
returns-then-is_clean g c =
    let found = c.in_ok-faults.ensures in
    let none = c.deref.ensures.value in
    let clean = sym none ∙ c.is_clean.ensures.0 c.if-is_clean.true in
    settled (separator_of c.args.rest) c.args.letters.now (names_in c.args.frame.columns.now)
    (kinds_in c.args.frame.columns.now) c.args.is_partial (at c.args.rest) (found.0) _ _ _
    (c.a_table_is_read_in_one_way.ensures (separator_of c.args.rest) (at c.args.rest)) (found.1)
    (rw clean at found.2.faults) (found.2.keeps refl) _ c.write_letters-then-is_clean.ensures
