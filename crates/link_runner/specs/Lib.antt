pub mod Devices
pub mod Counting
pub mod Readers
pub mod AskedBytes
pub mod Writers
pub mod Runs
