pub mod ChainCode
pub mod NamesTold
pub mod OffsetsFound
pub mod OperandsBelow
pub mod RegistersCounted
pub mod RowsSay
pub mod SpreadOut
pub mod TooMuch
