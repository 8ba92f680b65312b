pub mod LocalFitting
pub mod LocalRules
pub mod LoopRules
pub mod MemoryRules
pub mod MoveRules
pub mod Narrowings
pub mod WordRules
