pub mod Exchanging
pub mod Loops
