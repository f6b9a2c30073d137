pub mod Indexes
pub mod Trees
pub mod Laws
pub use Rattle.tree_model.specs.records_model as records_model
pub use Rattle.tree_model.specs as tree_model
