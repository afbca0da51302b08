-- How the records of a table are spelled, and where a text is none.
pub mod Encodings
pub mod Ends
pub mod Faults
pub mod Heads
pub mod Marks
pub mod Places
pub mod Records
pub mod Scans
pub mod Separators
pub mod Spellings
pub mod Tables
pub mod Written
