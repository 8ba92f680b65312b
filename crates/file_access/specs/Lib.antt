pub mod FileCalls
pub mod Storage
pub mod Writing
pub mod Opened
pub mod Extents
