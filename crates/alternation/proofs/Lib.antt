pub mod AlternationsBeside
pub mod Choosing
