mod Exits
pub mod GroupParts
pub mod Home
pub mod Images
mod Intents
mod Loading
pub mod Reading
pub mod Touched
mod Written
pub mod block_disk
