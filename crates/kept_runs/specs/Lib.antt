pub mod Held
pub mod Machine
pub mod RunningOn
pub mod GoingOn
