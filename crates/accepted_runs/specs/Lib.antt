pub mod Reacting
pub mod Running
pub mod Lending
pub mod Awaiting
pub mod Replaying
