pub mod Doing
pub mod Settling
pub mod TheLaws
pub use Rattle.run_agreement.specs as run_agreement
