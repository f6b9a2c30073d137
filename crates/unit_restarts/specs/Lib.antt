pub mod Restarting
pub use Rattle.unit_aborts.specs as unit_aborts
pub use Rattle.unit_returns.specs as unit_returns
pub use Rattle.unit_aborts.specs.unit_undo as unit_undo
