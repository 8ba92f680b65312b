pub mod Readings
pub mod Processes
pub mod Programs
pub mod Sums
