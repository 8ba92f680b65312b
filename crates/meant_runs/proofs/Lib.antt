pub mod EchoMeant
pub mod MainsRun
