pub mod Buffering
pub mod MessageFits
pub mod MessageOtherModes
pub mod MessagesFit
pub mod MessagesTold
pub mod NamedChannels
