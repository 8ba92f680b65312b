pub mod ProcessesWritten
pub mod CalledCode
pub mod SmallCalls
