pub mod Records
pub mod History
pub mod Slots
pub mod Parts
pub mod Chain
pub mod Layout
pub mod Placing
pub mod Laws
pub use Rattle.vms_model.specs as vms_model
