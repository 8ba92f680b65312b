pub mod LinkLengths
pub mod Compiled
pub mod CodeLines
