pub mod Foundations
pub mod Mains
pub mod Programs
pub mod Tables
