pub mod Settled
pub use Rattle.lmcp_log.specs as lmcp_log
pub use Rattle.volume_laws.specs as volume_laws
pub use Rattle.volume_laws.specs.volume_model as volume_model
