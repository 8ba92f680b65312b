pub mod Operands
pub mod Spellings
pub mod Reading
pub mod Outcomes
pub mod Loop
pub mod Checks
