pub mod Own
pub mod Calls
pub mod Answers
pub use Rattle.run_said.specs.run_model as run_model
pub use Rattle.run_said.specs as run_said
pub use Rattle.run_said.specs.script_model as script_model
