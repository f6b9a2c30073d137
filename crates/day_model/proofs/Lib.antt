pub mod Hearing
pub mod Decimals
pub mod Speaking
