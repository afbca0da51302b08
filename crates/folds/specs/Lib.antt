-- Texts that stand on several lines.
pub mod Lines
pub mod Spellings
