pub mod MadeLemmas
pub mod volume_laws
pub mod volume_model
