pub mod Exchanging
pub mod Turning
