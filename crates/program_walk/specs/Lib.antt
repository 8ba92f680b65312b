pub mod Excesses
pub mod LimitTexts
pub mod Listings
