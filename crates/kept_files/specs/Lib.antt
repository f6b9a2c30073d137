pub mod Keeping
pub mod Own
pub use Rattle.file_settlements.specs as file_settlements
