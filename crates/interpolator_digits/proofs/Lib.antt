-- The lemmas of digits.
pub mod DecimalLemmas
pub mod DigitLemmas
pub mod ExponentLemmas
