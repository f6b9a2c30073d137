pub mod Layouts
pub mod Setting
pub mod Trees
pub mod Loads
pub mod Laws
pub use Rattle.records_model.specs as records_model
pub use Rattle.records_model.specs.vms_model as vms_model
