pub mod Naming
pub mod MayLemmas
pub mod Composing
pub mod log_laws
