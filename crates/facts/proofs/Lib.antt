pub mod GuardLabels
pub mod Local
pub mod Unruled
pub mod AmongStarts
