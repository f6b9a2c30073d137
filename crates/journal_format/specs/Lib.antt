pub mod IdForms
pub mod Fronts
pub mod Heads
pub use Rattle.journal_model.specs as journal_model
