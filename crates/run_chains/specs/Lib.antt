pub mod Reopenings
pub mod Chains
