pub mod Globals
pub mod MainMemory
pub mod MainPlaces
pub mod Mains
pub mod Walk
pub mod Items
pub mod Programs
