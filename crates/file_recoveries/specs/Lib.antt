pub mod Causes
pub mod Heads
pub mod Files
pub mod Rolling
pub mod Laws
pub mod Suiting
pub use Rattle.rolled_records.specs.save_laws as save_laws
