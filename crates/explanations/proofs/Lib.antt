pub mod Explains
pub mod Walked
pub mod Endings
