-- A format that is read once: its arguments, what is known from its tree before it is written, and
-- how the code stores it.
pub use Rattle.interpolator_pieces.specs.AllArguments
pub use Rattle.interpolator_pieces.specs.NodeChecks
pub use Rattle.interpolator_pieces.specs.NodeCosts
pub use Rattle.interpolator_pieces.specs.NodeExtents
pub use Rattle.interpolator_pieces.specs.NodeNames
pub use Rattle.interpolator_pieces.specs.NodePlaces
pub use Rattle.interpolator_pieces.specs.NodeSamples
pub use Rattle.interpolator_pieces.specs.Reading
pub use Rattle.interpolator_pieces.specs.Stored
pub use Rattle.interpolator_pieces.specs.StoredLists
pub use Rattle.interpolator_pieces.specs.StoredMeanings
pub use Rattle.interpolator_pieces.specs.Collecting
pub use Rattle.interpolator_pieces.specs.Visits
