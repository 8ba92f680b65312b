pub mod Wanting
pub mod ByLink
pub mod FirstInFirstOut
pub mod RunLaws
pub mod Awaiting
pub mod EchoRuns
pub mod Driving
pub mod Deadlocks
