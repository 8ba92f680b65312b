pub mod EndSets
pub mod Finding
pub mod Gifts
pub mod Opened
pub mod Planning
pub mod Sharing
pub mod Summary
pub mod Testing
