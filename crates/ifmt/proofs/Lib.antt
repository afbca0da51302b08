-- The lemmas of the program.
pub mod BindLemmas
pub mod ReportLemmas
