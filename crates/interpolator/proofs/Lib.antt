-- The lemmas of the calls.
pub mod LongNestingLemmas
pub mod EscapeLemmas
pub mod ExcerptLemmas
pub mod PartLemmas
pub mod SampleMapLemmas
pub mod SamplePlaceLemmas
-- of this crate alone
mod DecimalDigitLemmas
mod DecimalReadLemmas
mod DecimalSumLemmas
mod DecimalTextLemmas
mod EndingLemmas
mod LentLemmas
mod NamedRowLemmas
mod NamedValueLemmas
mod NamingLemmas
mod OwnedLemmas
mod PositionLemmas
mod RecordPlaceLemmas
mod SampleWalkLemmas
mod SeamLemmas
