pub mod Ids
pub mod Keys
pub mod Outcomes
pub use Rattle.vms_model.specs as vms_model
