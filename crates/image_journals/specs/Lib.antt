pub mod Headers
pub use Rattle.journal_format.specs as journal_format
