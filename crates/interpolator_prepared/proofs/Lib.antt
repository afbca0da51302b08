-- The lemmas of prepared formats.
pub mod ProgramLemmas
pub mod WriteLemmas
-- of this crate alone
mod CompileLemmas
mod ItemLemmas
mod JoinedLemmas
mod KeptLemmas
mod ListMeaningLemmas
mod NumberRowLemmas
mod RowLemmas
mod SimpleListLemmas
mod StepLemmas
