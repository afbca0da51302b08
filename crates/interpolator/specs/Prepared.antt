-- A format that was prepared for rows of values: its program, and what that means with a row.
pub use Rattle.interpolator_prepared.specs.Items
pub use Rattle.interpolator_prepared.specs.Programs
pub use Rattle.interpolator_prepared.specs.Rows
pub use Rattle.interpolator_prepared.specs.StoredSteps
