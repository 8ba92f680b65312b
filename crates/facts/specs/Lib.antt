pub mod Rules
pub mod RulesFit
pub mod Successions
