pub mod Loosely
pub mod Handles
pub mod RunningOn
pub mod GoingOn
