pub mod Words
pub mod Links
pub mod Asked
pub mod Fitting
pub mod CommandLine
pub mod LineFaults
