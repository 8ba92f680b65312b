pub mod UsageTold
