pub mod Parts
pub mod Branches
pub mod Events
pub mod Effects
