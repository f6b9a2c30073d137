pub mod Lists
pub mod Standing
pub use Rattle.run_model.specs.records_model as records_model
pub use Rattle.run_model.specs.recovery_model as recovery_model
pub use Rattle.run_model.specs as run_model
pub use Rattle.run_model.specs.script_model as script_model
pub use Rattle.run_model.specs.transcript_model as transcript_model
pub use Rattle.run_model.specs.tree_model as tree_model
pub use Rattle.run_model.specs.unit_laws as unit_laws
