pub mod MessageFitting
pub mod MessageRules
