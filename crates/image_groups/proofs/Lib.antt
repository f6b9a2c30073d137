pub mod Behind
pub mod Dressed
pub mod Left
pub mod Lists
pub mod Outcomes
pub mod Sides
pub mod restart_laws
