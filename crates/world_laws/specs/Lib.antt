pub mod Restarts
pub mod Ordered
pub mod Room
pub mod Apart
pub mod Worlds
pub mod Holding
pub mod Running
pub mod Entering
pub mod Nodes
pub use Rattle.run_model.specs.commit_protocol as commit_protocol
pub use Rattle.run_model.specs.log_laws as log_laws
pub use Rattle.run_model.specs.recovery_model as recovery_model
pub use Rattle.run_model.specs as run_model
pub use Rattle.run_model.specs.script_model as script_model
pub use Rattle.run_model.specs.transcript_model as transcript_model
