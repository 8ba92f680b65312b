pub mod Certified
pub mod Point
pub mod Lives
pub mod Pending
pub mod ParLabels
pub mod Alternating
pub mod Invariant
