pub mod Draws
pub mod Command
pub mod Pieces
pub mod Days
pub mod Readings
pub mod Worked
