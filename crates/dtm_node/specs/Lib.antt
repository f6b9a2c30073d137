pub mod Causes
pub mod Asking
pub mod Nodes
pub mod Going
pub mod Boots
pub mod Opening
pub mod Formatting
pub use Rattle.node_requests.specs.node_standing as node_standing
pub use Rattle.node_requests.specs.node_table as node_table
pub use Rattle.recovery_units.specs as recovery_units
pub use Rattle.run_shared.specs as run_shared
