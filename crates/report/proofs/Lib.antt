pub mod LineLemmas
pub mod PlaceLemmas
pub mod TotalLemmas
pub mod WidthLemmas
