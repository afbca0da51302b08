-- The lemmas of tables.
mod TableLemmas
