pub mod Days
pub mod Steps
pub mod Scripts
pub use Rattle.day_model.specs as day_model
