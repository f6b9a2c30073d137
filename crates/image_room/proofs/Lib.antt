pub mod Beside
pub mod Entered
pub mod Keeping
pub mod Model
pub mod Rings
pub mod Sound
pub mod volume_files
