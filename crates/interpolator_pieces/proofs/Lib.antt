-- The lemmas of stored pieces.
pub mod AllArgumentLemmas
pub mod CallLemmas
pub mod CheckLemmas
pub mod CheckPlaceLemmas
pub mod CollectLemmas
pub mod CostLawLemmas
pub mod ExtentLemmas
pub mod LineLemmas
pub mod RangeLemmas
pub mod RunLemmas
pub mod StoredLemmas
pub mod StoredNameLemmas
pub mod VisitLemmas
pub mod WholeLemmas
pub mod WholePieceLemmas
-- of this crate alone
mod CostLemmas
mod NodeDepthLemmas
mod ListTextLemmas
mod ParseLemmas
mod PartLemmas
mod PlainPieceLemmas
mod TextCheckLemmas
mod WalkLemmas
mod WithinLemmas
