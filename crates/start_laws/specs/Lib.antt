pub mod BranchLabels
pub mod Ending
pub mod Starting
