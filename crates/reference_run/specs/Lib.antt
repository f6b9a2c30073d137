pub mod Served
pub mod Scripts
