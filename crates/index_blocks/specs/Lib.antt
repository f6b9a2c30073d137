pub mod Buckets
pub mod Levels
pub mod Writes
pub mod Climbs
pub mod Laws
pub use Rattle.index_bucket.specs as index_bucket
pub use Rattle.index_bucket.specs.index_model as index_model
