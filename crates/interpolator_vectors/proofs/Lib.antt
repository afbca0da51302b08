-- The lemmas of the rows' writers.
pub mod LimitLemmas
