pub mod AlternationFitting
pub mod AlternationRules
pub mod Choice
pub mod Guards
pub mod ModesAsked
pub mod SameGuards
pub mod Telling
