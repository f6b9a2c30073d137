pub mod Units
pub mod Laws
pub mod Journal
pub mod JournalLaws
pub mod Layouts
pub use Rattle.tree_model.specs.records_model as records_model
pub use Rattle.tree_model.specs as tree_model
pub use Rattle.tree_model.specs.vms_model as vms_model
