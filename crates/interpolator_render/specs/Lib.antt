-- The definitions that the contracts cite.
pub mod Writers
pub mod Bounds
pub mod PassedOn
pub mod IoWriters
pub mod Views
pub mod Characters
pub mod Layout
pub mod Copies
pub mod DigitBuffers
pub mod Forms
pub mod Padding
pub mod Numbers
pub mod Quoting
pub mod Unquoting
pub mod Texts
pub mod FewDigits
pub mod Lengths
