pub mod SequentialTested
pub mod SumsTogether
pub mod LastItem
