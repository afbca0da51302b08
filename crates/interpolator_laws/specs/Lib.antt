-- What only laws say.
pub mod SamplePairs
