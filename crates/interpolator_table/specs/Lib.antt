-- The definitions that the contracts use.
pub mod Cells
pub mod Lists
