pub mod Changing
pub mod Keys
pub use Rattle.unit_cuts.specs as unit_cuts
