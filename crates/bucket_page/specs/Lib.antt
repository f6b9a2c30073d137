pub mod Frames
pub mod Moves
pub mod Pages
