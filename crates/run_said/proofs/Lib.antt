pub mod Passing
pub mod Views
pub mod log_laws
pub mod run_model
