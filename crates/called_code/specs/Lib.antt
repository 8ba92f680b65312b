pub mod CalledCode
pub mod SmallCalls
