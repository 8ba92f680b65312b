pub mod FilesClosed
pub mod FilesRun
pub mod Driven
