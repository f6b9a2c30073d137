pub mod May
pub mod Doing
pub use Rattle.run_model.specs.log_laws as log_laws
pub use Rattle.run_model.specs as run_model
