pub mod Beside
pub mod Kept
pub mod Within
pub mod Settled
pub mod Processes
