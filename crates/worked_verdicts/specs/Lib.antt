pub mod SmallMessages
pub mod SmallPars
