-- Formats that were prepared for rows of values: their programs, and what these mean with a row.
pub mod Items
pub mod NumberRows
pub mod Programs
pub mod Rows
pub mod SimpleLists
pub mod StoredSteps
