pub mod NeverAtFault
pub mod Happening
pub mod Proceeding
pub mod EventByEvent
pub mod RunningAlone
