pub mod Granting
pub mod Performing
pub mod NewFaults
pub mod Bounding
