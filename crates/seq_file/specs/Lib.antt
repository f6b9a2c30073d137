pub mod Frames
pub mod Layout
pub mod Local
pub mod Placing
pub mod Records
pub use Rattle.bucket_page.specs as bucket_page
pub use Rattle.change_set.specs as change_set
pub use Rattle.file_base.specs as file_base
