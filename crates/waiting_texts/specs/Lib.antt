pub mod Resting
pub mod Waits
pub mod Lines
