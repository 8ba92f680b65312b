pub mod Acting
pub mod Actions
pub mod Checked
pub mod Assigning
pub mod Exchanging
pub mod Sending
pub mod Receiving
