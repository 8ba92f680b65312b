pub mod Resting
pub mod Deadlocked
