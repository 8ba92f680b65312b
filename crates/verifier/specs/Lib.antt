pub mod Reports
pub mod Upgrading
pub mod Judge
pub mod Judging
pub mod Walking
pub mod Headline
pub mod SmallAlternation
