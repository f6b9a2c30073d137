pub mod Room
pub use Rattle.image_appends.specs as image_appends
pub use Rattle.image_appends.specs.unit_journal as unit_journal
