pub mod Labels
pub mod OwnCode
pub mod AmongOthers
pub mod NumbersStay
