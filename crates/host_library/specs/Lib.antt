pub mod Files
pub mod Events
pub mod Failures
pub mod Replays
pub mod Machines
pub mod Sizes
