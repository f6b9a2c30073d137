pub mod Groups
pub mod Levels
pub mod tree_model
