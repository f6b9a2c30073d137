pub mod Doing
pub mod Kept
pub mod Choices
pub mod Restarts
