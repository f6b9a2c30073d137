pub mod Layout
pub mod Home
pub mod Head
pub use Rattle.file_base.specs as file_base
