pub mod Locals
pub mod Ready
pub mod Sources
