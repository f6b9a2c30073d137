pub mod Images
pub mod Journal
pub mod Timeline
pub mod File
pub mod Room
pub mod Acts
pub mod Opening
pub mod Recovery
pub mod Places
pub mod Laws
pub use Rattle.unit_laws.specs.records_model as records_model
pub use Rattle.unit_laws.specs.tree_model as tree_model
pub use Rattle.unit_laws.specs as unit_laws
