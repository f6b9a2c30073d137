pub mod Empties
pub mod EmptyCatalogs
pub mod Entries
pub mod FirstFindings
pub mod Listings
pub mod Places
pub mod Reading
pub mod Listed
pub mod Staging
pub mod Soundness
mod Deciding
mod LimitsDecided
mod HomesDecided
mod EntriesDecided
mod ContentsDecided
pub mod extents
pub mod volume_format
