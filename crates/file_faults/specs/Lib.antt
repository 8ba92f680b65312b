pub mod Fields
pub mod Walks
pub mod Walking
pub mod Names
pub mod FileFaults
