mod AlternationEndsFit
pub mod AlternationFits
pub mod AlternationOtherModes
mod AlternationsFit
pub mod ChoiceJudged
pub mod EqualGuards
mod GuardNames
pub mod Paying
