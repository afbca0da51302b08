-- What the letters of a template and a table are.
pub mod Columns
pub mod Letters
pub mod Names
pub mod Table
pub mod Values
