-- The lemmas of slots, of contexts and of what a format means.
pub mod FieldNameLemmas
pub mod MeaningLemmas
pub mod RowLemmas
-- of this crate alone
mod GuessLemmas
mod LoanLemmas
mod NameLemmas
mod PairLemmas
mod SlotLemmas
mod SlotNameLemmas
