-- What the values of the examples show, and what a log contains.
pub mod Cells
pub mod Levels
pub mod Logs
