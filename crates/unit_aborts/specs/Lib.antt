pub mod Aborting
pub mod Growing
pub mod Reopening
pub use Rattle.image_room.specs.image_appends as image_appends
pub use Rattle.image_room.specs as image_room
pub use Rattle.unit_undo.specs as unit_undo
