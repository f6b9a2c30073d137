pub mod LastImages
pub mod Runs
pub mod Answered
pub mod Promises
pub use Rattle.run_chains.specs as run_chains
