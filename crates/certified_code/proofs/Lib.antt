pub mod Refusals
pub mod JudgedBytes
