pub mod Fronts
pub mod Orders
pub mod PageLaws
pub mod Walks
pub mod Zeros
