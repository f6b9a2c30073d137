pub mod Others
pub mod Ending
