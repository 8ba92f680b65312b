pub mod Sound
pub mod Stepping
pub mod RunningAlone
