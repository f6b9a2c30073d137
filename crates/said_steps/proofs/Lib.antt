pub mod OwnLines
pub mod Refusals
pub mod Restarted
pub mod Calling
pub mod Falls
pub mod run_model
pub mod run_said
