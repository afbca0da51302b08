-- The lemmas of the laws.
mod CheckLawLemmas
mod ContiguousLemmas
mod EscapedLemmas
mod FaultLemmas
mod FloatLengthLemmas
mod InnermostLemmas
mod ItselfLemmas
mod ResembleLemmas
mod RowSampleLemmas
mod SamplePairLemmas
mod UnfailingLemmas
