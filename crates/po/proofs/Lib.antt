pub mod EntryLemmas
pub mod FileLemmas
pub mod OnceLemmas
pub mod PlaceLemmas
pub mod ScanLemmas
pub mod StepLemmas
pub mod StringLemmas
pub mod TokenLemmas
