pub mod RowsSay
pub mod Passing
pub mod RootRows
pub mod PassingLaws
pub mod Shapes
pub mod Ways
pub mod Certifying
pub mod SmallPieces
