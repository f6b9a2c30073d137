pub mod Parting
pub mod Reads
pub mod Statements
pub mod Where
pub use Rattle.script_model.specs as script_model
