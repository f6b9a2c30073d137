pub mod Refusing
pub use Rattle.tm_table.specs as tm_table
