pub mod Rows
pub mod Histories
pub mod Standing
pub mod Directories
