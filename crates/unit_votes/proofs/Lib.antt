pub mod Keeping
pub mod Setting
pub mod Settled
pub mod Tied
