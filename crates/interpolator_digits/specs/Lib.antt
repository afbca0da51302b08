-- The definitions of digits.
pub mod Characters
pub mod Digits
pub mod Exponent
pub mod Decimals
