pub mod InsideMemory
pub mod TasksCounted
pub mod Parked
pub mod KeptWords
pub mod Members
