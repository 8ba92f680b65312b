pub mod Lying
pub mod LyingInPrograms
pub mod Places
pub mod Premises
pub mod Actions
pub mod ProcessesBehave
