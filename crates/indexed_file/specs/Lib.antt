pub mod Backs
pub mod Behind
pub mod Chain
pub mod Made
pub mod Places
pub mod Raws
pub mod Samples
pub mod Sets
pub use Rattle.change_set.specs as change_set
pub use Rattle.change_set.specs.records_model as records_model
pub use Rattle.change_set.specs.tree_model as tree_model
