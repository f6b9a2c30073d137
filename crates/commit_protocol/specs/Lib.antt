pub mod Messages
pub mod Table
pub mod Rows
pub mod Effects
pub mod Allowed
pub mod World
pub mod Agreement
pub mod Opening
pub mod Orders
pub mod Reasons
pub mod Limits
pub mod Settling
pub mod Standing
pub use Rattle.vms_model.specs as vms_model
