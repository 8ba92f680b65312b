pub mod ChainWidth
pub mod Places
pub mod Causes
pub mod Parts
pub mod AtFault
