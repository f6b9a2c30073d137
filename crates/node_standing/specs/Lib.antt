pub mod Standing
pub mod Holding
pub mod Keeping
pub mod Telling
pub mod Moments
pub use Rattle.node_table.specs as node_table
pub use Rattle.said_steps.specs.run_said as run_said
pub use Rattle.said_steps.specs as said_steps
