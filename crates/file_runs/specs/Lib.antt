pub mod RunTexts
pub mod FilesInOrder
pub mod FilesOnLinks
pub mod Debugging
