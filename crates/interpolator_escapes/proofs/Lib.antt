-- The lemmas of escapes.
pub mod ControlLemmas
pub mod FaultLemmas
pub mod FieldLemmas
pub mod FieldRowLemmas
pub mod FormatLemmas
pub mod FormatPartLemmas
pub mod GrowthLemmas
pub mod JsonLemmas
pub mod KeepLemmas
pub mod LanguageLemmas
pub mod PartValueLemmas
pub mod PlainLemmas
pub mod ReaderLemmas
pub mod RecordFormatLemmas
pub mod RecordLemmas
pub mod RecordPassLemmas
pub mod RowLemmas
pub mod WholeLemmas
-- of this crate alone
mod HandSteps
mod PassingLemmas
mod EscapingLemmas
mod HtmlLemmas
mod MarkLemmas
mod PlacingLemmas
mod RecordPieceLemmas
mod RoomLemmas
mod SearchLemmas
mod DoubtLemmas
