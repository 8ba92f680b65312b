pub mod Generated
pub mod Refused
pub mod LinksFit
pub mod NeverInvalid
