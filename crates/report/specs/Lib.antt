-- What the total of a column is, how numbers are added, how wide a text is, and what a line is.
pub mod Lines
pub mod Places
pub mod Totals
pub mod Widths
