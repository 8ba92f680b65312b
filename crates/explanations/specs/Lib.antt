pub mod Explaining
pub mod Endings
pub mod Telling
