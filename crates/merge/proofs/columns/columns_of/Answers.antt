use Rattle.std.proofs.Common.{◌∙◌, List, ap, map, sym, ℕ}
use Rattle.std.proofs.{lemmas.List.take_all, lemmas.Simd.map-map}
use Rattle.merge.specs.{Columns.as_column, declared.columns.Kind.Kind}
use Rattle.merge.proofs.columns.columns_of.Goals as goal

pub returns-clause-kinds : goal.returns-clause-kinds
returns-clause-kinds c =
    sym (map-map (λ (column : List ℕ × Kind). column.1) as_column c.loop-field.columns.items)
    ∙ ap (λ columns. map (λ column. column.1) columns)
    (rw (take_all c.loop-field.field-index c.args.fields.now c.loop-field-test.false)
    at c.loop-field.invariant)

pub returns-clause-names : goal.returns-clause-names
returns-clause-names c =
    sym (map-map (λ (column : List ℕ × Kind). column.0) as_column c.loop-field.columns.items)
    ∙ ap (λ columns. map (λ column. column.0) columns)
    (rw (take_all c.loop-field.field-index c.args.fields.now c.loop-field-test.false)
    at c.loop-field.invariant)
