pub mod IdLaws
pub mod Spots
pub mod Places
pub use Rattle.records_model.specs as records_model
