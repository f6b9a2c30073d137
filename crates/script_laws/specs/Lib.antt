pub mod Clocks
pub mod RecoveryLines
