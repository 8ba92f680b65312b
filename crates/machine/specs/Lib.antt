pub mod Asking
pub mod Applying
pub mod Allocating
pub mod Lending
pub mod Bounding
