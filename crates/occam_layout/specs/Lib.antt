pub mod Fault
pub mod Characters
pub mod Kind
pub mod Reading
pub mod Tokens
pub mod Pieces
pub mod Words
