pub mod CallFitting
pub mod CallRules
pub mod Callings
