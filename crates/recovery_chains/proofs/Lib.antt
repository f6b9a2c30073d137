mod Bound
mod Doomed
mod Chains
