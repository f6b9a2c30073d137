pub mod Rooted
pub mod Laws
pub mod Sets
pub mod Maps
pub mod Backs
pub mod Puts
pub mod Files
pub mod Samples
pub use Rattle.index_blocks.specs as index_blocks
pub use Rattle.index_blocks.specs.index_bucket as index_bucket
pub use Rattle.index_blocks.specs.index_model as index_model
pub use Rattle.indexed_file.specs as indexed_file
