-- The definitions that the contracts use.
pub use Rattle.interpolator_render.specs.Texts
pub use Rattle.interpolator_render.specs.Views
pub use Rattle.interpolator_render.specs.Writers
pub use Rattle.interpolator_syntax.specs.Places
pub use Rattle.interpolator_syntax.specs.Faults
pub use Rattle.interpolator_syntax.specs.FaultTexts
pub mod Meaning
pub mod Slots
pub mod SlotNames
pub mod Contexts
pub mod Escaping
pub mod NameMaps
pub mod Names
pub mod NameNumbers
pub mod Rows
