-- Formats that were read once: how the code stores their pieces, and what is known from them.
pub mod AllArguments
pub mod Calls
pub mod Collecting
pub mod Lines
pub mod NodeChecks
pub mod NodeCosts
pub mod NodeExtents
pub mod NodeNames
pub mod NodePlaces
pub mod NodeSamples
pub mod Reading
pub mod Stored
pub mod StoredLists
pub mod StoredMeanings
pub mod Visits
