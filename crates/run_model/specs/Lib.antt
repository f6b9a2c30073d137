pub mod Extents
pub mod Locks
pub mod World
pub mod Operations
pub mod Answers
pub mod Steps
pub mod Statements
pub mod Transcript
pub mod Rows
pub mod ManagerRows
pub mod StepLaws
pub use Rattle.transcript_model.specs.commit_protocol as commit_protocol
pub use Rattle.log_laws.specs as log_laws
pub use Rattle.recovery_model.specs.records_model as records_model
pub use Rattle.recovery_model.specs as recovery_model
pub use Rattle.script_model.specs as script_model
pub use Rattle.transcript_model.specs as transcript_model
pub use Rattle.recovery_model.specs.tree_model as tree_model
pub use Rattle.recovery_model.specs.unit_laws as unit_laws
