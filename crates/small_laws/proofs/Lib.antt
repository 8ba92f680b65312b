pub mod Connectives
pub mod Comparisons
pub mod Options
pub mod Lookups
pub mod Mapped
