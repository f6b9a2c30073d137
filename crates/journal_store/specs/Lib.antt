pub mod Rings
pub mod Leaving
pub mod Reading
pub mod Refusing
