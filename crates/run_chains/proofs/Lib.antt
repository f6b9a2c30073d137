pub mod Lasts
pub mod Anew
pub mod Names
pub mod Told
pub mod Next
