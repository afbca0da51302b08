-- The lemmas of the reader and of the faults.
pub mod CaseLemmas
pub mod CharacterLemmas
pub mod FirstByteLemmas
pub mod FrontLemmas
pub mod GrammarArgumentLemmas
pub mod GrammarGroupLemmas
pub mod GrammarPieceLemmas
pub mod GuardLemmas
pub mod LocalityLemmas
pub mod LongestLemmas
pub mod MovePieceLemmas
pub mod NodeLemmas
pub mod PieceLemmas
pub mod ReaderLemmas
pub mod ScanLemmas
pub mod SizeLemmas
pub mod SplitLemmas
pub mod StripLemmas
pub mod TokenLemmas
pub mod TokenTextLemmas
pub mod TreePlaceLemmas
-- of this crate alone
mod ArgumentFaultLemmas
mod ByteLemmas
mod EqualityLemmas
mod ErrorLemmas
mod GrammarLemmas
mod GrammarListLemmas
mod GrammarNumberLemmas
mod GrammarOptionLemmas
mod GrammarPartLemmas
mod GrammarSpecLemmas
mod GrammarTraitLemmas
mod GroupLemmas
mod GroupReaderLemmas
mod LocalLemmas
mod SimpleReaderLemmas
mod UnstyledLemmas
