pub mod Replying
pub mod Serving
pub mod Asking
pub mod Acting
pub mod Listing
pub mod Making
pub mod TheLaws
pub mod Settings
pub mod Recovering
pub use Rattle.node_standing.specs as node_standing
pub use Rattle.node_standing.specs.run_said as run_said
pub use Rattle.node_standing.specs.said_steps as said_steps
