pub mod SubcommandsHavePaths
pub mod Matched
pub mod Numbers
