pub mod Undoable
pub mod Undone
pub mod Aborted
pub mod Committed
pub use Rattle.image_groups.specs as image_groups
pub use Rattle.settlement_laws.specs as settlement_laws
pub use Rattle.unit_undo.specs as unit_undo
