pub mod Beside
pub mod Counting
pub mod LinkNumbers
pub mod ListedCells
pub mod MessagesBeside
pub mod Removed
pub mod TurnsBeside
pub mod Uncounted
