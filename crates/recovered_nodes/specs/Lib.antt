pub mod Recovering
pub mod Rows
pub mod Laws
pub use Rattle.recover_rms.specs.load_laws as load_laws
pub use Rattle.recover_rms.specs as recover_rms
