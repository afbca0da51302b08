-- The definitions that the contracts cite.
pub mod Answers
pub mod Arguments
pub mod Checks
pub mod Costs
pub mod Escaped
pub mod Fields
pub mod Layouts
pub mod Measures
pub mod Requests
pub mod Tables
