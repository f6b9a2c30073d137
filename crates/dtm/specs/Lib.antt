pub mod Causes
pub mod Commands
pub mod Days
pub mod Endings
pub mod Images
pub mod Statuses
