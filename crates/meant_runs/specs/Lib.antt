pub mod Meant
pub mod MainsRun
