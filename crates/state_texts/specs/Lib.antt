pub mod StateTexts
pub mod FrameTexts
