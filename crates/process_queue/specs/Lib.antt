pub mod Keeping
pub mod Picking
pub mod Queued
