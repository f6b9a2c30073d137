pub mod Entries
pub mod Takes
pub mod Laws
pub use Rattle.bucket_page.specs as bucket_page
pub use Rattle.index_model.specs as index_model
