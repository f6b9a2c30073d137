pub mod Said
pub use Rattle.run_model.specs.log_laws as log_laws
pub use Rattle.run_model.specs as run_model
pub use Rattle.run_model.specs.script_model as script_model
pub use Rattle.run_model.specs.transcript_model as transcript_model
