pub mod Mains
pub mod Programs
