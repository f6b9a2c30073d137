pub mod Undoing
pub mod Laws
pub use Rattle.seq_file.specs.change_set as change_set
