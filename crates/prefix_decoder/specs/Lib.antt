pub mod Functions
pub mod Operand
pub mod Spelling
pub mod Fetching
