pub mod Texts
pub mod FactTexts
pub mod RowTexts
