pub mod Refused
pub mod Unread
pub mod Replayed
pub mod Statuses
pub mod CertifiedFiles
