pub mod Groups
pub mod Lists
pub use Rattle.image_room.specs.image_appends as image_appends
pub use Rattle.restart_laws.specs as restart_laws
