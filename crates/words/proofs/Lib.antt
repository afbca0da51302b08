-- The lemmas of words.
pub mod PartLemmas
pub mod ItemLemmas
