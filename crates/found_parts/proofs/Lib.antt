pub mod Nothing
pub mod SharedParts
pub mod Unmet
