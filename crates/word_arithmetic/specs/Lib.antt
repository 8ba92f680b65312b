pub mod Word
pub mod Long
pub mod Range
pub mod Comparison
pub mod Binary
pub mod Unary
