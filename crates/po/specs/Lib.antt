-- The messages of a PO file: how they are written, and what they are.
pub mod Entries
pub mod Marks
pub mod Places
pub mod Sections
pub mod Steps
pub mod Strings
pub mod Tokens
